use Rattle.c_lexer.proofs.WordsOff.{other_off, wide_off}
use Rattle.c_lexer.proofs.cut.cut_other.Goals as goal

pub returns-in-Some : goal.returns-in-Some
returns-in-Some c = wide_off c.args.text.now c.in-Some.left c.in-Some.field-0-0 c.requires.letter c.requires.word c.in-Some.ensures

pub returns-in-None : goal.returns-in-None
returns-in-None c =
    other_off c.args.text.now c.behind.result c.requires.some c.requires.blank c.requires.letter c.requires.word c.requires.number c.requires.mark c.requires.quote c.in-None.ensures c.behind.ensures
