use Rattle.std.proofs.Common.{◌≡◌, ◌≤◌, length}
use Rattle.run_parts.proofs.bounds.last_bound.Given as goal

abbrev pub invariant-loop-count : goal.invariant-loop-count
invariant-loop-count l = record {
  same : l.bounds.items ≡ l.initial.bounds.items;
  count : l.count ≤ length l.bounds.items;
}

abbrev pub decreases-loop-count : goal.decreases-loop-count
decreases-loop-count l = l.count
