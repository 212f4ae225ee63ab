use Rattle.std.proofs.Common.{◌≡◌}
use Rattle.early_gaps.specs.Columns.{column_at}
use Rattle.early_gaps.proofs.columns.column_from.Given as goal

abbrev pub invariant-loop-id : goal.invariant-loop-id
invariant-loop-id l = l.column ≡ column_at l.tab l.arena l.id
