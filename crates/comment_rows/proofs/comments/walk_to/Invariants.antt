use Rattle.std.proofs.Common.{◌≡◌, ◌+◌}
use Rattle.comment_rows.specs.Comments.{column_behind}
use Rattle.comment_rows.proofs.comments.walk_to.Given as goal

abbrev pub invariant-loop-at : goal.invariant-loop-at
invariant-loop-at l = l.column ≡ column_behind l.style l.plan l.tokens (l.fn.known.place + l.at)
