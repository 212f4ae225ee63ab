use Rattle.c_grammar.proofs.Lines.{keeps_items_over_lines}
use Rattle.c_grammar.proofs.laws.keeps_items_over_lines.Goals as goal

pub returns : goal.returns
returns c = keeps_items_over_lines
