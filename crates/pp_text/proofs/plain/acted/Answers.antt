use Rattle.std.proofs.Common.{map, sym}
use Rattle.pp_model.specs.Finding.{kind_of}
use Rattle.pp_model.specs.Preprocess.{act, acted}
use Rattle.pp_events.specs.View.{tok_shown}
use Rattle.pp_items.specs.View.{kind_shown}
use Rattle.pp_directives.specs.WorldView.{world_shown}
use Rattle.pp_text.proofs.Acts.{acted_when, acted_unless}
use Rattle.pp_text.proofs.Results.{ok_to}
use Rattle.pp_text.proofs.plain.acted.Goals as goal

pub returns-then-branch : goal.returns-then-branch
returns-then-branch c =
    let read = kind_of c.args.rules.now.spellings.dialect in
    let kind = kind_shown c.args.kind in
    let ts = map tok_shown c.args.tokens.items in
    let w = world_shown c.args.world.now in
    let v = world_shown c.acts.new.self in
    ok_to c.act.result (λ x. world_shown c.act.new.world) (act read kind c.args.function_like ts v) (acted read kind c.args.function_like ts w)
    (sym (acted_when read kind c.args.function_like ts w v c.in_ok-acts.field-0 c.in_ok-acts.ensures c.if-branch.true)) c.act.ensures

pub returns-else-branch : goal.returns-else-branch
returns-else-branch c =
    sym
    (acted_unless (kind_of c.args.rules.now.spellings.dialect) (kind_shown c.args.kind) c.args.function_like (map tok_shown c.args.tokens.items) (world_shown c.args.world.now)
    (world_shown c.acts.new.self) c.in_ok-acts.field-0 c.in_ok-acts.ensures c.if-branch.false)
