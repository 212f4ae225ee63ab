use Rattle.std.proofs.Common.{◌≡◌, ℕ, ◌≤◌, length}
use Rattle.std.specs.Prelude.{slice_get}
use Rattle.statement_lines.specs.Tokens.{is_touched}
use Rattle.unwrapped_lines.proofs.viewed.note_touched.Given as goal

abbrev pub invariant-loop : goal.invariant-loop
invariant-loop l = record {
  same : (i : ℕ) → is_touched (slice_get l.touched.items i) ≡ is_touched (slice_get l.fn.touched.items i);
  count : length l.touched.items ≡ l.counter;
  most : l.counter ≤ l.place;
}
