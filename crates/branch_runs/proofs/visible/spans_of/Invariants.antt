use Rattle.std.proofs.Common.{◌≡◌, ◌≤◌, length}
use Rattle.branch_runs.specs.Visible.{FitSpansFrom}
use Rattle.branch_runs.proofs.visible.spans_of.Given as goal

abbrev pub invariant-loop-at : goal.invariant-loop-at
invariant-loop-at l = record {
  within : l.at ≤ length l.texts;
  count : length l.spans ≡ length l.texts;
  each : FitSpansFrom l.at l.texts l.spans;
}

abbrev pub decreases-loop-at : goal.decreases-loop-at
decreases-loop-at l = l.at
