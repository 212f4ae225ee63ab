use Rattle.std.proofs.Common.{◌<◌, ◌∙◌, ℕ, List, length, sym, ap, subst}
use Rattle.std.specs.Prelude.{All}
use Rattle.replacements.specs.Decisions.{decided_all}
use Rattle.replacements.specs.declared.slot.Slot.{Slot}
use Rattle.comment_rows.specs.declared.comments.Comment.{Comment}
use Rattle.comment_rows.proofs.CommentLists.{comments_within, none_made}
use Rattle.comment_rows.proofs.comments.place_comments.Goals as goal

pub returns-then-not-has_open_comment-clause-plan : goal.returns-then-not-has_open_comment-clause-plan
returns-then-not-has_open_comment-clause-plan c =
    sym (ap (λ (made : List (ℕ × Slot)). decided_all c.args.plan.now made) (none_made c.args.style.now c.args.plan.now c.args.tokens.now c.if-not-has_open_comment.ensures))

pub place_all-requires-clause-within : goal.place_all-requires-clause-within
place_all-requires-clause-within c =
    subst (λ (xs : List Comment). All (λ (comment : Comment). comment.id < length c.args.plan.now) xs) (sym (c.deref-2.ensures.value ∙ c.in_ok-comments.ensures))
    (comments_within c.args.style.now c.args.plan.now c.args.tokens.now (length c.args.plan.now) c.requires.within)
