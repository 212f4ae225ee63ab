use Rattle.std.proofs.Common.{◌≡◌, ◌<◌, ◌≤◌, ◌-◌, ℕ, true, get_or, length}
use Rattle.std.specs.Prelude.{IsSome}
use Rattle.line_tokens.specs.declared.LineTok.{LineTok}
use Rattle.line_tokens.specs.Roles.{is_trailing}
use Rattle.replacements.specs.Decisions.{slot_of}
use Rattle.comment_rows.proofs.comments.has_open_comment.Given as goal

abbrev pub invariant-loop-at : goal.invariant-loop-at
invariant-loop-at l = record {
  within : l.at ≤ length l.tokens;
  decided : (i : ℕ) (d : LineTok) → i < l.at → is_trailing (get_or l.tokens i d).role ≡ true → IsSome (slot_of l.plan (get_or l.tokens i d).id.0);
}

abbrev pub decreases-loop-at : goal.decreases-loop-at
decreases-loop-at l = length l.tokens - l.at
