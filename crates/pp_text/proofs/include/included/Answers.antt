use Rattle.std.proofs.Common.{◌∙◌, ap, map, sym}
use Rattle.pp_model.specs.Finding.{kind_of}
use Rattle.pp_model.specs.Preprocess.{included, key_of}
use Rattle.pp_events.specs.View.{tok_shown}
use Rattle.pp_directives.specs.WorldView.{world_shown}
use Rattle.pp_text.specs.Unread.{includes_of, entered}
use Rattle.pp_text.specs.ReadingView.{rules_shown, sections_shown, included_by}
use Rattle.pp_text.proofs.Acts.{included_when, included_unless}
use Rattle.pp_text.proofs.Results.{ok_from}
use Rattle.pp_text.proofs.include.included.Goals as goal

pub returns-in-None-clause-shown : goal.returns-in-None-clause-shown
returns-in-None-clause-shown c =
    let read = kind_of c.args.rules.now.spellings.dialect in
    let include = includes_of (rules_shown c.args.rules.now) c.args.depth in
    let ts = map tok_shown c.args.tokens.items in
    included_when read include ts (world_shown c.args.world.now) (world_shown c.acts.new.self) c.in_ok-acts.field-0 c.in_ok-acts.ensures c.if-branch.true
    ∙ (c.in_ok-operand.ensures include ∙ ap (λ o. included_by include o (world_shown c.operand.new.world)) c.in-None.is)

pub returns-in-Some-clause-shown : goal.returns-in-Some-clause-shown
returns-in-Some-clause-shown c =
    let read = kind_of c.args.rules.now.spellings.dialect in
    let include = includes_of (rules_shown c.args.rules.now) c.args.depth in
    let ts = map tok_shown c.args.tokens.items in
    let v = world_shown c.operand.new.world in
    ok_from c.find.result (included read include ts (world_shown c.args.world.now)) (include v (key_of (map tok_shown c.as_slice.result.now)))
    (λ r. entered (rules_shown c.args.rules.now) c.args.depth (sections_shown r) (world_shown c.find.new.world))
    (included_when read include ts (world_shown c.args.world.now) (world_shown c.acts.new.self) c.in_ok-acts.field-0 c.in_ok-acts.ensures c.if-branch.true
    ∙ (c.in_ok-operand.ensures include
    ∙ (ap (λ o. included_by include o v) c.in-Some.is ∙ ap (λ k. include v (key_of (map tok_shown k))) (sym c.as_slice.ensures.value))))
    c.find.ensures.shown

pub returns-else-branch-clause-shown : goal.returns-else-branch-clause-shown
returns-else-branch-clause-shown c =
    included_unless (kind_of c.args.rules.now.spellings.dialect) (includes_of (rules_shown c.args.rules.now) c.args.depth) (map tok_shown c.args.tokens.items)
    (world_shown c.args.world.now) (world_shown c.acts.new.self) c.in_ok-acts.field-0 c.in_ok-acts.ensures c.if-branch.false
