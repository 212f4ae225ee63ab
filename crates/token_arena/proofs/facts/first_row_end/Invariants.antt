use Rattle.std.proofs.Common.{◌≡◌, ℕ, ◌<◌, false, get_or}
use Rattle.token_arena.specs.Stored.{is_line_feed}
use Rattle.token_arena.proofs.facts.first_row_end.Given as goal

abbrev pub invariant-loop-i : goal.invariant-loop-i
invariant-loop-i l = (k : ℕ) → k < l.i → is_line_feed (get_or l.raw k 0) ≡ false
