use Rattle.replacements.specs.Inside.{AreTaken}
use Rattle.replacements.proofs.plan.are_eight_decided.Given as goal

abbrev pub invariant-loop-at : goal.invariant-loop-at
invariant-loop-at l = AreTaken l.entries l.fn.first l.at
