use Rattle.break_search.proofs.Striding.{none_kept}
use Rattle.break_search.proofs.table.Table.empty.Goals as goal

pub invariant_of-result : goal.invariant_of-result
invariant_of-result c = none_kept _ _ _ _ c.in_ok-nodes.ensures.items
