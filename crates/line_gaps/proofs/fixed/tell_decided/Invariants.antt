use Rattle.std.proofs.Common.{◌≡◌, ◌≤◌}
use Rattle.line_gaps.specs.Fixed.{fixed_of_token, fixed_up_to}
use Rattle.line_gaps.proofs.fixed.tell_decided.Given as goal

abbrev pub invariant-loop-at : goal.invariant-loop-at
invariant-loop-at l = record {
  order : l.at ≤ l.fn.end;
  told : l.fixed ≡ fixed_up_to (fixed_of_token l.arena l.plan) l.tokens l.at;
}
