use Rattle.c_grammar.proofs.Rewritten.{rewrites_gaps}
use Rattle.c_grammar.proofs.laws.rewrites_gaps.Goals as goal

pub returns : goal.returns
returns c = rewrites_gaps
