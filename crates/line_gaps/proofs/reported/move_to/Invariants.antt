use Rattle.std.proofs.Common.{◌≡◌}
use Rattle.line_gaps.specs.InputColumns.{input_before}
use Rattle.line_gaps.proofs.reported.move_to.Given as goal

abbrev pub invariant-loop-at : goal.invariant-loop-at
invariant-loop-at l = record {
  place : l.cursor.place ≡ l.at;
  column : l.cursor.column ≡ input_before l.style l.arena l.view l.at;
}
