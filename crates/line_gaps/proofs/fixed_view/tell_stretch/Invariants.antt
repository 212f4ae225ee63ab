use Rattle.std.proofs.Common.{◌≡◌, ◌≤◌, ◌+◌, ◌-◌}
use Rattle.line_gaps.specs.Fixed.{fixed_of_id, fixed_up_to}
use Rattle.line_gaps.proofs.fixed_view.tell_stretch.Given as goal

abbrev pub invariant-loop-offset : goal.invariant-loop-offset
invariant-loop-offset l = record {
  within : l.offset ≤ l.stretch.end - l.stretch.first;
  told : l.fixed ≡ fixed_up_to (fixed_of_id l.arena l.plan) l.view (l.place + l.offset);
}
