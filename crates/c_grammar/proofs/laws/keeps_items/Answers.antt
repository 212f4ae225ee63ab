use Rattle.c_grammar.proofs.Items.{keeps_items}
use Rattle.c_grammar.proofs.laws.keeps_items.Goals as goal

pub returns : goal.returns
returns c = keeps_items
