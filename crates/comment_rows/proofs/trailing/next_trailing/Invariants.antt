use Rattle.std.proofs.Common.{◌≡◌, ◌≤◌, ◌<◌, ℕ, false, get_or, length}
use Rattle.line_tokens.specs.Roles.{is_trailing}
use Rattle.line_tokens.specs.declared.LineTok.{LineTok}
use Rattle.comment_rows.proofs.trailing.next_trailing.Given as goal

abbrev pub invariant-loop-at : goal.invariant-loop-at
invariant-loop-at l = record {
  later : l.from ≤ l.at;
  within : l.at ≤ length l.tokens;
  others : (i : ℕ) (d : LineTok) → l.from ≤ i → i < l.at → is_trailing (get_or l.tokens i d).role ≡ false;
}
