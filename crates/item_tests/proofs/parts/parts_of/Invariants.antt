use Rattle.std.proofs.Common.{get_or}
use Rattle.std.specs.Option.{ForSome}
use Rattle.view_parts.specs.Parts.{StandsBefore}
use Rattle.part_walk.specs.Places.{place_in}
use Rattle.item_tests.proofs.parts.parts_of.Given as goal

-- the next part begins behind what stands for its place
abbrev pub invariant-loop : goal.invariant-loop
invariant-loop g l = ForSome (place_in l.begin.inside) (λ place. StandsBefore place (get_or l.source.view.now l.begin.first 0))
