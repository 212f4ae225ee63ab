use Rattle.std.proofs.Common.{◌∙◌, sym}
use Rattle.c_chars.specs.Characters.{bytes_of}
use Rattle.c_lexer.proofs.FirstBytes.{two_apart, two_there, two_missing}
use Rattle.c_lexer.proofs.front.begins_two.Goals as goal

pub returns-then-first-one : goal.returns-then-first-one
returns-then-first-one c = two_apart c.args.one c.args.two c.args.first (bytes_of c.args.text.now.chars) c.requires c.if-first-one.true

pub returns-in-Some : goal.returns-in-Some
returns-in-Some c = two_there c.args.one c.args.two c.args.first c.args.text.now.chars c.in-Some.character c.requires c.if-first-one.false (sym c.peek.ensures ∙ c.in-Some.is)

pub returns-in-None : goal.returns-in-None
returns-in-None c = two_missing c.args.one c.args.two c.args.first c.args.text.now.chars c.requires (sym c.peek.ensures ∙ c.in-None.is)
