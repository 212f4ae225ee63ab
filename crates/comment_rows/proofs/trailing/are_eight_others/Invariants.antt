use Rattle.std.proofs.Common.{◌+◌, ◌≡◌, ◌≤◌, ◌<◌, ℕ, false, get_or}
use Rattle.line_tokens.specs.Roles.{is_trailing}
use Rattle.line_tokens.specs.declared.LineTok.{LineTok}
use Rattle.comment_rows.proofs.trailing.are_eight_others.Given as goal

abbrev pub invariant-loop-next : goal.invariant-loop-next
invariant-loop-next l = (i : ℕ) (d : LineTok) → l.first ≤ i → i < l.first + l.next → is_trailing (get_or l.tokens i d).role ≡ false
