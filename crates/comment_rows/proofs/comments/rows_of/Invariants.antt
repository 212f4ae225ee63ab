use Rattle.std.proofs.Common.{◌≡◌, ◌++◌, map, drop}
use Rattle.comment_rows.specs.Comments.{row_of}
use Rattle.comment_rows.proofs.comments.rows_of.Given as goal

abbrev pub invariant-loop-comment : goal.invariant-loop-comment
invariant-loop-comment l = l.rows.items ++ map row_of (drop l.comment-index l.comments) ≡ map row_of l.comments
