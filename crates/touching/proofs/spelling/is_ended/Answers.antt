use Rattle.std.proofs.Common.{◌∙◌, [], sym, ap}
use Rattle.c_chars.specs.Characters.{bytes_of}
use Rattle.c_grammar.specs.Grammar.{is_same}
use Rattle.touching.proofs.Words.{left_some, left_none}
use Rattle.touching.proofs.spelling.is_ended.Goals as goal

pub returns-in-Some : goal.returns-in-Some
returns-in-Some c = sym (left_some c.args.chars.now.chars c.in-Some.field-0 (sym c.peek.ensures ∙ c.in-Some.is))

pub returns-in-None : goal.returns-in-None
returns-in-None c = ap (λ z. is_same (bytes_of z) []) (sym (left_none c.args.chars.now.chars (sym c.peek.ensures ∙ c.in-None.is)))
