use Rattle.std.proofs.Common.{◌∙◌, sym}
use Rattle.c_grammar.specs.Grammar.{is_letter}
use Rattle.touching.specs.Spelling.{spelling}
use Rattle.touching.proofs.Firsts.{first_some, first_none}
use Rattle.touching.proofs.touch.begins_letter.Goals as goal

pub returns-in-Some : goal.returns-in-Some
returns-in-Some c = c.is_letter.ensures ∙ sym (first_some is_letter (spelling c.args.dialect c.args.raw.now) c.in-Some.first (sym c.first_char.ensures ∙ c.in-Some.is))

pub returns-in-None : goal.returns-in-None
returns-in-None c = sym (first_none is_letter (spelling c.args.dialect c.args.raw.now) (sym c.first_char.ensures ∙ c.in-None.is))
