use Rattle.std.proofs.Common.{◌≡◌, take}
use Rattle.fmt_ports.proofs.streams.same.common_len.Given as goal

abbrev pub invariant-loop-at : goal.invariant-loop-at
invariant-loop-at l = take l.at l.left ≡ take l.at l.right
