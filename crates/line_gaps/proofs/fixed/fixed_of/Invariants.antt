use Rattle.std.proofs.Common.{◌≡◌, ◌≤◌, ◌-◌, length}
use Rattle.line_gaps.specs.Fixed.{fixed_of_token, fixed_up_to}
use Rattle.line_gaps.proofs.fixed.fixed_of.Given as goal

abbrev pub invariant-loop-first : goal.invariant-loop-first
invariant-loop-first l = record {
  within : l.first ≤ length l.tokens;
  told : l.fixed ≡ fixed_up_to (fixed_of_token l.arena l.plan) l.tokens l.first;
}

abbrev pub decreases-loop-first : goal.decreases-loop-first
decreases-loop-first l = length l.tokens - l.first
