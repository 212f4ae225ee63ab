use Rattle.std.proofs.Common.{◌≡◌, drop}
use Rattle.std.specs.Prelude.{max}
use Rattle.comment_rows.specs.Columns.{largest_column}
use Rattle.comment_rows.proofs.place.largest_column.Given as goal

abbrev pub invariant-loop-row : goal.invariant-loop-row
invariant-loop-row l = max l.most (largest_column (drop l.row-index l.rows)) ≡ largest_column l.rows
