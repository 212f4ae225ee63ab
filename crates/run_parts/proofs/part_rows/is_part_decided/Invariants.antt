use Rattle.std.proofs.Common.{◌-◌, ◌≤◌}
use Rattle.run_parts.proofs.RowsDecided.{IsDecidedUpTo}
use Rattle.run_parts.proofs.part_rows.is_part_decided.Given as goal

abbrev pub invariant-loop-place : goal.invariant-loop-place
invariant-loop-place l = record {
  from : l.first ≤ l.place;
  all : IsDecidedUpTo l.plan l.view l.first l.place;
}

abbrev pub decreases-loop-place : goal.decreases-loop-place
decreases-loop-place l = l.end - l.place
