use Rattle.std.proofs.Common.{◌≡◌, take}
use Rattle.part_walk.proofs.bodies.place_behind.Given as goal

abbrev pub invariant-loop-body : goal.invariant-loop-body
invariant-loop-body l = l.heads.items ≡ take l.body-index l.bodies
