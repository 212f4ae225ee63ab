use Rattle.std.proofs.Common.{◌≡◌, ◌<◌, ◌≤◌, ◌-◌, ◌++◌, ℕ, map, length, drop}
use Rattle.token_arena.specs.Segments.{bounds_of}
use Rattle.branch_runs.specs.Seen.{taken}
use Rattle.branch_runs.specs.Visible.{text_at}
use Rattle.branch_runs.specs.Inside.{inside}
use Rattle.branch_runs.proofs.window.stretches_between.Given as goal

abbrev pub invariant-loop-place : goal.invariant-loop-place
invariant-loop-place l = record {
  left : map bounds_of l.stretches.items ++ inside l.first l.end (taken (drop l.at l.texts) l.number) ≡ inside l.first l.end (taken l.texts l.number);
  behind : (k : ℕ) → l.at ≤ k → k < length l.texts → l.first < (text_at l.texts k).end;
}

abbrev pub decreases-loop-place : goal.decreases-loop-place
decreases-loop-place l = length l.texts - l.at
