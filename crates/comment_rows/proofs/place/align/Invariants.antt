use Rattle.std.proofs.Common.{◌≡◌, ◌++◌, None, take, drop, length}
use Rattle.comment_rows.specs.Columns.{lined_up}
use Rattle.comment_rows.proofs.place.align.Given as goal

abbrev pub invariant-loop-index : goal.invariant-loop-index
invariant-loop-index l = record {
  whole : length l.rows ≡ length l.initial.rows;
  done : take l.index l.rows ++ lined_up l.before (drop l.index l.rows) ≡ lined_up None l.initial.rows;
}
