use Rattle.c_grammar.proofs.FitGaps.{keeps_items_over_fit_gaps}
use Rattle.c_grammar.proofs.laws.keeps_items_over_fit_gaps.Goals as goal

pub returns : goal.returns
returns c = keeps_items_over_fit_gaps
