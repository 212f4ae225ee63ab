use Rattle.std.proofs.Common.{◌≡◌, ◌≤◌, ◌<◌, ◌-◌, ◌++◌, true, drop, get_or, length}
use Rattle.line_tokens.specs.Roles.{is_trailing}
use Rattle.line_tokens.specs.Tokens.{no_token}
use Rattle.line_tokens.specs.declared.LineTok.{LineTok}
use Rattle.comment_rows.specs.Comments.{column_behind, comments_behind, comments_in}
use Rattle.comment_rows.proofs.comments.comments_in.Given as goal

abbrev pub invariant-loop-at : goal.invariant-loop-at
invariant-loop-at l = record {
  from : 1 ≤ l.at;
  within : l.at ≤ length l.tokens;
  found : l.at < length l.tokens → (d : LineTok) → is_trailing (get_or l.tokens l.at d).role ≡ true;
  order : l.known.place < l.at;
  known : l.known.column ≡ column_behind l.style l.plan l.tokens l.known.place;
  kept : l.comments.items ++ comments_behind l.style l.plan (get_or l.tokens (l.at - 1) no_token) (column_behind l.style l.plan l.tokens (l.at - 1)) (drop l.at l.tokens) ≡ comments_in l.style l.plan l.tokens;
}

abbrev pub decreases-loop-at : goal.decreases-loop-at
decreases-loop-at l = length l.tokens - l.at
