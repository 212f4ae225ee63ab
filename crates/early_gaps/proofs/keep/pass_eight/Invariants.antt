use Rattle.std.proofs.Common.{◌≡◌, ◌+◌, ◌≤◌, ◌<◌, ℕ, false, slice_get}
use Rattle.early_gaps.specs.Dead.{is_dead_item}
use Rattle.early_gaps.specs.Joined.{is_backslash}
use Rattle.early_gaps.proofs.keep.pass_eight.Given as goal

abbrev pub invariant-loop-next : goal.invariant-loop-next
invariant-loop-next l = l.dead ≡ false → (k : ℕ) → l.first ≤ k → k < l.first + l.next → is_dead_item l.arena k ≡ false

abbrev pub invariant-loop-next-2 : goal.invariant-loop-next-2
invariant-loop-next-2 l = (k : ℕ) → l.first ≤ k → k < l.first + l.next → is_backslash (slice_get l.arena.tokens k) ≡ false
