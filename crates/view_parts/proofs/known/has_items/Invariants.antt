use Rattle.view_parts.proofs.Spans.{AreSame}
use Rattle.view_parts.proofs.known.has_items.Given as goal

abbrev pub invariant-loop-row : goal.invariant-loop-row
invariant-loop-row l = AreSame l.view l.first l.items l.row-items l.row-index
