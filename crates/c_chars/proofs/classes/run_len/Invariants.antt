use Rattle.std.proofs.Common.{◌≡◌, ◌-◌, ◌+◌, ◌≤◌, length}
use Rattle.std.specs.List.{prefix_len}
use Rattle.c_chars.proofs.classes.run_len.Given as goal

abbrev pub invariant-loop-sixteen : goal.invariant-loop-sixteen
invariant-loop-sixteen g l = record {
  within : length l.rest ≤ length l.bytes;
  rest_is : (length l.bytes - length l.rest) + prefix_len g.C.ByteClass.holds l.rest ≡ prefix_len g.C.ByteClass.holds l.bytes;
}

abbrev pub decreases-loop-sixteen : goal.decreases-loop-sixteen
decreases-loop-sixteen g l = length l.rest
