use Rattle.c_grammar.proofs.Reading.{one_list}
use Rattle.c_grammar.proofs.laws.text_has_one_list.Goals as goal

pub returns : goal.returns
returns c = one_list
