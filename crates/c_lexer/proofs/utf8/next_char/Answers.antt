use Rattle.std.proofs.Common.{◌∙◌, sym}
use Rattle.c_lexer.proofs.WideOff.{none_at_end, none_of_len, char_off}
use Rattle.c_lexer.proofs.utf8.next_char.Goals as goal

pub returns-in_default : goal.returns-in_default
returns-in_default c = none_at_end c.args.text.now (sym c.peek.ensures ∙ c.in_default.is)

pub returns-in-Some-char_of : goal.returns-in-Some-char_of
returns-in-Some-char_of c = char_off c.args.text.now c.behind.result c.in-Some-char_of.character c.char_len-len.result c.in-Some-char_of.ensures.0 c.in-Some-char_of.ensures.1 c.behind.ensures

pub returns-in-None : goal.returns-in-None
returns-in-None c = none_of_len c.args.text.now c.in-Some.first c.char_len-len.result (sym c.peek.ensures ∙ c.in-Some.is) c.char_len-len.ensures.len c.in-None.ensures
