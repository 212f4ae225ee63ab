use Rattle.early_gaps.proofs.InputColumns.{column_next}
use Rattle.early_gaps.proofs.columns.column_from.Goals as goal

pub loop-id-preserved : goal.loop-id-preserved
loop-id-preserved c = column_next c.args.tab c.args.arena.now c.loop-id.id c.loop-id.column c.next_column-column.result c.loop-id.invariant c.next_column-column.ensures
