use Rattle.std.proofs.Common.{◌≡◌, ◌≤◌, ◌-◌, length}
use Rattle.line_gaps.specs.Fixed.{fixed_of_id, fixed_up_to}
use Rattle.line_gaps.proofs.fixed_view.fixed_of_view.Given as goal

abbrev pub invariant-loop-place : goal.invariant-loop-place
invariant-loop-place l = record {
  within : l.place ≤ length l.view;
  told : l.fixed ≡ fixed_up_to (fixed_of_id l.arena l.plan) l.view l.place;
}

abbrev pub decreases-loop-place : goal.decreases-loop-place
decreases-loop-place l = length l.view - l.place
