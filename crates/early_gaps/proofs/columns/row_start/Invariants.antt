use Rattle.std.proofs.Common.{◌≤◌}
use Rattle.early_gaps.proofs.columns.row_start.Given as goal

abbrev pub invariant-loop-at : goal.invariant-loop-at
invariant-loop-at l = record { low : l.least ≤ l.at; high : l.at ≤ l.place }

abbrev pub decreases-loop-at : goal.decreases-loop-at
decreases-loop-at l = l.at
