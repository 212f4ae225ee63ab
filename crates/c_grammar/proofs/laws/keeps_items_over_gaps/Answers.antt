use Rattle.c_grammar.proofs.OtherGap.{keeps_items_over_gaps}
use Rattle.c_grammar.proofs.laws.keeps_items_over_gaps.Goals as goal

pub returns : goal.returns
returns c = keeps_items_over_gaps
