use Rattle.replacements.proofs.Items.{IsOne}
use Rattle.replacements.proofs.hash.run_of.Given as goal

abbrev pub invariant-loop-at : goal.invariant-loop-at
invariant-loop-at l = IsOne l.arena.dialect l.arena.tokens l.place l.at
