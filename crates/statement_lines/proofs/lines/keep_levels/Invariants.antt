use Rattle.std.proofs.Common.{◌≡◌, ◌≤◌, length}
use Rattle.std.specs.Vec.{vec_capacity}
use Rattle.statement_lines.specs.Lines.{lines_told}
use Rattle.statement_lines.proofs.lines.keep_levels.Given as goal

abbrev pub invariant-loop-number : goal.invariant-loop-number
invariant-loop-number l = record {
  count : length l.levels.items ≡ l.number;
  room : length l.rows ≤ vec_capacity l.levels;
  lines : lines_told l.rows l.levels.items ≡ lines_told l.rows l.initial.levels.items;
}
