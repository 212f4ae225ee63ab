use Rattle.std.proofs.Common.{◌-◌, ◌≤◌, ◌<◌, ℕ, false, get_or, length}
use Rattle.early_gaps.specs.Kept.{Passes}
use Rattle.early_gaps.proofs.keep.plain_front.Given as goal

abbrev pub invariant-loop-at : goal.invariant-loop-at
invariant-loop-at l = record {
  later : l.place ≤ l.at;
  within : l.at ≤ length l.arena.tokens;
  passed : (k : ℕ) → l.place ≤ k → k < l.at → Passes l.arena (get_or l.frozen k false) k;
}

abbrev pub decreases-loop-at : goal.decreases-loop-at
decreases-loop-at l = l.count - l.at
