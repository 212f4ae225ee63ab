use Rattle.std.proofs.Common.{◌∙◌, sym}
use Rattle.c_lexer.proofs.FirstBytes.{at_missing, at_there}
use Rattle.c_lexer.proofs.front.byte_at.Goals as goal

pub returns-in-Some : goal.returns-in-Some
returns-in-Some c = at_there c.args.text.now.chars c.args.index c.in-Some.character (sym c.peek.ensures ∙ c.in-Some.is)

pub returns-in-None : goal.returns-in-None
returns-in-None c = at_missing c.args.text.now.chars c.args.index (sym c.peek.ensures ∙ c.in-None.is)
