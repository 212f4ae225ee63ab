use Rattle.line_walk.proofs.LeastBreaks.{IsLittleIn}
use Rattle.line_walk.proofs.walk.least_breaks_in.Given as goal

abbrev pub invariant-tokens : goal.invariant-tokens
invariant-tokens l = IsLittleIn l.line l.breaks.items l.store l.state l.placed
