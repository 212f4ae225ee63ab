use Rattle.c_grammar.proofs.Unique.{has_one_list}
use Rattle.c_grammar.proofs.laws.has_one_list.Goals as goal

pub returns : goal.returns
returns c = has_one_list
