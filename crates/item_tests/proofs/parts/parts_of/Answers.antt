use Rattle.std.proofs.Common.{get_or, sym, subst}
use Rattle.std.specs.Option.{ForSome}
use Rattle.view_parts.specs.declared.ends.PartStart.{PartStart}
use Rattle.view_parts.specs.Parts.{StandsBefore}
use Rattle.part_walk.specs.Places.{place_in}
use Rattle.item_tests.proofs.parts.parts_of.Goals as goal
use Rattle.item_tests.proofs.parts.parts_of.Goals.{then-begin-count, else-begin-count}

pub loop-preserved : goal.loop-preserved
loop-preserved g c =
    let view = c.args.view.now in
    elim c.if-begin-count.branch [
      | then-begin-count w ↦ subst (λ (b : PartStart). ForSome (place_in b.inside) (λ place. StandsBefore place (get_or view b.first 0))) (sym w.begin-is) w.next_part-laid.ensures.place
      | else-begin-count w ↦ subst (λ (b : PartStart). ForSome (place_in b.inside) (λ place. StandsBefore place (get_or view b.first 0))) (sym w.begin-is) c.loop.invariant
    ]
