use Rattle.break_search.specs.Descent.{IsDescent}
use Rattle.break_search.proofs.descent.take_turns.Given as goal

abbrev pub invariant-turns : goal.invariant-turns
invariant-turns l = IsDescent l.line l.store l.budget l.trail l.trying.most l.trying.next l.trying.choice
