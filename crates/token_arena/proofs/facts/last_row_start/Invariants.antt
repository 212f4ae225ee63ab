use Rattle.std.proofs.Common.{◌≡◌, ℕ, ◌<◌, ◌≤◌, false, length, get_or}
use Rattle.token_arena.specs.Stored.{is_line_feed}
use Rattle.token_arena.proofs.facts.last_row_start.Given as goal

abbrev pub invariant-loop-start : goal.invariant-loop-start
invariant-loop-start l = record {
  within : l.start ≤ length l.raw;
  in_row : (k : ℕ) → l.start ≤ k → k < length l.raw → is_line_feed (get_or l.raw k 0) ≡ false;
}

abbrev pub decreases-loop-start : goal.decreases-loop-start
decreases-loop-start l = l.start
