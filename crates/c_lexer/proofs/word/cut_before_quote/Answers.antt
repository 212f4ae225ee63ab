use Rattle.c_lexer.proofs.WordsOff.{word_off}
use Rattle.c_lexer.proofs.word.cut_before_quote.Goals as goal

pub returns-in-None : goal.returns-in-None
returns-in-None c = word_off c.args.text.now c.args.left c.requires.letter c.requires.left (λ q. c.in-None.ensures)
