use Rattle.std.proofs.Common.{◌≡◌, ◌+◌, drop}
use Rattle.part_walk.specs.Walk.{heads_len}
use Rattle.part_walk.proofs.bodies.heads_len.Given as goal

abbrev pub invariant-loop-head : goal.invariant-loop-head
invariant-loop-head l = l.count + heads_len (drop l.head-index l.heads) ≡ heads_len l.heads
