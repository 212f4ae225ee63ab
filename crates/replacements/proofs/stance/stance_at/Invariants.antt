use Rattle.std.proofs.Common.{◌≡◌, ◌≤◌, ◌-◌, ℕ, length, drop}
use Rattle.replacements.specs.Stances.{stance_in}
use Rattle.replacements.proofs.stance.stance_at.Given as goal

abbrev pub invariant-loop-next : goal.invariant-loop-next
invariant-loop-next l = record {
  within : l.next ≤ length l.sections;
  later : (k : ℕ) → l.place ≤ k → stance_in (drop l.next l.sections) k ≡ stance_in (drop l.initial.next l.sections) k;
}

abbrev pub decreases-loop-next : goal.decreases-loop-next
decreases-loop-next l = length l.sections - l.next
