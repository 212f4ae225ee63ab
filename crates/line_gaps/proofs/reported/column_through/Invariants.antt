use Rattle.std.proofs.Common.{◌≡◌, drop}
use Rattle.line_gaps.specs.InputColumns.{column_through}
use Rattle.line_gaps.proofs.reported.column_through.Given as goal

abbrev pub invariant-loop-byte : goal.invariant-loop-byte
invariant-loop-byte l = column_through l.tab l.at (drop l.byte-index l.gap) ≡ column_through l.tab l.column l.gap
