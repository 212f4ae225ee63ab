use Rattle.std.proofs.Common.{◌∙◌, sym, ap}
use Rattle.part_walk.specs.declared.walk.Around.{Around}
use Rattle.part_walk.specs.declared.walk.Walk.{Walk}
use Rattle.part_walk.specs.Reading.{GoesOn}
use Rattle.part_walk.specs.Walk.{reading}
use Rattle.part_walk.proofs.PlainTokens.{opener_reading}
use Rattle.part_walk.proofs.reading.read.Goals as goal

pub returns-then-not-may_end-clause-read : goal.returns-then-not-may_end-clause-read
returns-then-not-may_end-clause-read c =
    let arena = c.args.arena.now in
    let walk = c.args.walk.now in
    let id = c.args.id.0 in
    let class = c.args.class in
    let never = sym c.may_end.ensures ∙ c.if-not-may_end.true in
    ap (λ (w : Walk). GoesOn w) c.pass_opener.ensures
    ∙ (opener_reading arena walk id class never (sym c.opens_group.ensures ∙ c.if-opens_group.true) ∙ ap (λ (a : Around). reading arena walk a id class) (sym c.in-Body.is))
