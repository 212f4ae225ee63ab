use Rattle.std.proofs.Common.{◌-◌, ◌≡◌, ◌≤◌, ◌<◌, ℕ, false, get_or, length}
use Rattle.line_tokens.specs.Roles.{is_trailing}
use Rattle.line_tokens.specs.declared.LineTok.{LineTok}
use Rattle.comment_rows.proofs.trailing.others_end.Given as goal

abbrev pub invariant-loop-first : goal.invariant-loop-first
invariant-loop-first l = record {
  later : l.from ≤ l.first;
  within : l.first ≤ length l.tokens;
  others : (i : ℕ) (d : LineTok) → l.from ≤ i → i < l.first → is_trailing (get_or l.tokens i d).role ≡ false;
}

abbrev pub decreases-loop-first : goal.decreases-loop-first
decreases-loop-first l = length l.tokens - l.first
