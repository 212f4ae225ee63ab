use Rattle.std.proofs.Common.{◌≤◌, ◌-◌, length}
use Rattle.branch_runs.specs.Visible.{NoneSeen}
use Rattle.branch_runs.proofs.visible.Visible.next.Given as goal

abbrev pub invariant-loop-place : goal.invariant-loop-place
invariant-loop-place l = record {
  after : l.at ≤ l.place;
  none : NoneSeen l.self l.at l.place l.run;
}

abbrev pub decreases-loop-place : goal.decreases-loop-place
decreases-loop-place l = length l.self - l.place
