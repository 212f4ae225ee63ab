use Rattle.std.proofs.Common.{◌≡◌, ◌+◌, ◌≤◌, ◌<◌, ℕ, false, get_or}
use Rattle.early_gaps.proofs.keep.is_some_marked.Given as goal

abbrev pub invariant-loop-next : goal.invariant-loop-next
invariant-loop-next l = l.marked ≡ false → (k : ℕ) → l.first ≤ k → k < l.first + l.next → get_or l.frozen k false ≡ false
