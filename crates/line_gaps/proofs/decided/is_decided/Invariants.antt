use Rattle.std.proofs.Common.{ℕ, ◌≤◌, ◌<◌, ◌+◌, ◌-◌, get_or}
use Rattle.std.specs.Prelude.{IsSome}
use Rattle.replacements.specs.Decisions.{slot_of}
use Rattle.line_gaps.proofs.decided.is_decided.Given as goal

abbrev pub invariant-loop-place : goal.invariant-loop-place
invariant-loop-place l = record {
  from : l.line.first ≤ l.place;
  some : (j : ℕ) → l.line.first ≤ j → j < l.place → IsSome (slot_of l.plan (get_or l.view j 0));
}

abbrev pub decreases-loop-place : goal.decreases-loop-place
decreases-loop-place l = l.line.last + 1 - l.place
