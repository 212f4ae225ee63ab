use Rattle.std.proofs.Common.{◌≡◌, ◌≤◌, ◌<◌, ◌-◌, ℕ, None, get_or, length}
use Rattle.replacements.specs.Decisions.{slot_of}
use Rattle.line_gaps.proofs.fixed_view.is_view_open.Given as goal

abbrev pub invariant-loop-place : goal.invariant-loop-place
invariant-loop-place l = record {
  within : l.place ≤ length l.view;
  open_gaps : (k : ℕ) → k < l.place → slot_of l.plan (get_or l.view k 0) ≡ None;
}

abbrev pub decreases-loop-place : goal.decreases-loop-place
decreases-loop-place l = length l.view - l.place
