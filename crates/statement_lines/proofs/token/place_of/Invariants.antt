use Rattle.std.proofs.Common.{ℕ, ◌+◌, ◌<◌, ◌≤◌, ◌-◌, length, get_or}
use Rattle.statement_lines.proofs.token.place_of.Given as goal

abbrev pub invariant-loop-low : goal.invariant-loop-low
invariant-loop-low l = record {
  range : l.low ≤ l.high;
  most : l.high ≤ length l.comments;
  before : (i : ℕ) → i < l.low → get_or l.comments i 0 ≤ l.number + i;
  behind : l.high < length l.comments → l.number + l.high < get_or l.comments l.high 0;
}

abbrev pub decreases-loop-low : goal.decreases-loop-low
decreases-loop-low l = l.high - l.low
