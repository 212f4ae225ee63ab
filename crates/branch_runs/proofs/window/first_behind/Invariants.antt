use Rattle.std.proofs.Common.{◌<◌, ◌≤◌, ◌-◌, ℕ, length}
use Rattle.branch_runs.specs.Visible.{text_at}
use Rattle.branch_runs.proofs.window.first_behind.Given as goal

abbrev pub invariant-loop-low : goal.invariant-loop-low
invariant-loop-low l = record {
  order : l.low ≤ l.high;
  within : l.high ≤ length l.texts;
  before : (k : ℕ) → k < l.low → (text_at l.texts k).end ≤ l.item;
  behind : (k : ℕ) → l.high ≤ k → k < length l.texts → l.item < (text_at l.texts k).end;
}

abbrev pub decreases-loop-low : goal.decreases-loop-low
decreases-loop-low l = l.high - l.low
