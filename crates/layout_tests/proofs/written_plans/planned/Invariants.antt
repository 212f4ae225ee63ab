use Rattle.std.proofs.Common.{◌≡◌, ◌+◌, length}
use Rattle.layout_tests.proofs.written_plans.planned.Given as goal

abbrev pub invariant-loop-place : goal.invariant-loop-place
invariant-loop-place g l = length l.plan ≡ length l.arena.tokens + 1
