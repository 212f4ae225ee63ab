use Rattle.c_grammar.proofs.Apart.{keeps_items_apart}
use Rattle.c_grammar.proofs.laws.keeps_items_apart.Goals as goal

pub returns : goal.returns
returns c = keeps_items_apart
