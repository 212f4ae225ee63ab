use Rattle.c_grammar.specs.Place.{place_of}
use Rattle.c_lexer.proofs.Nexts.{next_result}
use Rattle.c_lexer.proofs.next.cut_next.Goals as goal

pub returns-in-None : goal.returns-in-None
returns-in-None c = next_result (place_of c.args.standing) c.args.text.now c.cut_item.result c.requires.some c.in-None.ensures c.cut_item.ensures
