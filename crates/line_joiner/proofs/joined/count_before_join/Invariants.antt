use Rattle.std.proofs.Common.{◌≡◌, ◌++◌, drop, take}
use Rattle.line_joiner.specs.Joined.{joined}
use Rattle.line_joiner.proofs.joined.count_before_join.Given as goal

abbrev pub invariant-loop-index : goal.invariant-loop-index
invariant-loop-index l = take l.index l.lines ++ joined l.style l.classes l.tokens l.fixed (drop l.index l.lines) ≡ joined l.style l.classes l.tokens l.fixed l.lines
