use Rattle.std.proofs.Common.{◌∙◌, sym, ap}
use Rattle.part_walk.specs.declared.walk.Walk.{Walk}
use Rattle.part_walk.specs.Reading.{GoesOn}
use Rattle.part_walk.proofs.BetweenDeclarations.{comment_reading}
use Rattle.part_walk.proofs.reading.read_outside.Goals as goal

pub returns-then-follows_between-clause-read : goal.returns-then-follows_between-clause-read
returns-then-follows_between-clause-read c =
    ap (λ (w : Walk). GoesOn w) c.pass_between.ensures
    ∙ comment_reading c.args.arena.now c.args.walk.now c.args.id.0 c.args.class (sym c.follows_between.ensures ∙ c.if-follows_between.true)
