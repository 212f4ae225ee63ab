use Rattle.std.proofs.Common.{◌≡◌, ◌-◌, drop}
use Rattle.unwrapped_lines.specs.Comments.{token_follows}
use Rattle.unwrapped_lines.specs.Inside.{parts_with}
use Rattle.unwrapped_lines.proofs.comments.token_follows.Given as goal

abbrev pub invariant-loop-comment : goal.invariant-loop-comment
invariant-loop-comment l =
    token_follows (parts_with (l.count - l.place) l.place (drop l.comment-index l.comments)) ≡ token_follows (parts_with (l.count - l.from) l.from l.comments)
