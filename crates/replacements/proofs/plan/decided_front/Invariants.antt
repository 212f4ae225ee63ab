use Rattle.std.proofs.Common.{◌≤◌, ◌-◌, length}
use Rattle.replacements.specs.Inside.{AreTaken}
use Rattle.replacements.proofs.plan.decided_front.Given as goal

abbrev pub invariant-loop-first : goal.invariant-loop-first
invariant-loop-first l = record {
  within : l.first ≤ length l.entries;
  decided : AreTaken l.entries 0 l.first;
}

abbrev pub decreases-loop-first : goal.decreases-loop-first
decreases-loop-first l = length l.entries - l.first
