use Rattle.line_joiner.proofs.Alone.{AreAlone}
use Rattle.line_joiner.proofs.joined.are_alone.Given as goal

abbrev pub invariant-loop-index : goal.invariant-loop-index
invariant-loop-index l = AreAlone l.style l.classes l.tokens l.lines l.index
