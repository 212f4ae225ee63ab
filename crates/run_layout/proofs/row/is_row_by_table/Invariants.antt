use Rattle.std.proofs.Common.{◌≡◌, ◌≤◌, ◌-◌, slice_get}
use Rattle.std.specs.Prelude.{Some}
use Rattle.line_state.specs.Line.{Line, first_cost}
use Rattle.run_layout.specs.OneRow.{IsOneRow, IsRowLine}
use Rattle.run_layout.proofs.row.is_row_by_table.Given as goal

abbrev pub invariant-loop-at : goal.invariant-loop-at
invariant-loop-at l = record {
  from : 1 ≤ l.at;
  left : slice_get l.tokens (l.at - 1) ≡ Some l.left;
  few : l.cells ≤ 4294967297;
  row : (line : Line) → IsRowLine line l.style l.fn.column l.tokens l.fn.first → IsOneRow line (l.at - 1) l.behind l.frames l.cells;
  free : (line : Line) → IsRowLine line l.style l.fn.column l.tokens l.fn.first → first_cost line ≡ 0;
}
