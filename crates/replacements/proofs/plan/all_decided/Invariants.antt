use Rattle.replacements.specs.Inside.{AreTaken}
use Rattle.replacements.proofs.plan.all_decided.Given as goal

abbrev pub invariant-loop-at : goal.invariant-loop-at
invariant-loop-at l = AreTaken l.entries 0 l.at
