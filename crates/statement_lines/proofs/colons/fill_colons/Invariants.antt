use Rattle.std.proofs.Common.{◌≤◌, length}
use Rattle.statement_lines.specs.Colons.{AreColonsFrom}
use Rattle.statement_lines.proofs.colons.fill_colons.Given as goal

abbrev pub invariant-loop-place : goal.invariant-loop-place
invariant-loop-place l = record {
  colons : AreColonsFrom l.place l.colons l.tokens;
  most : l.place ≤ length l.tokens;
}

abbrev pub decreases-loop-place : goal.decreases-loop-place
decreases-loop-place l = l.place
