use Rattle.std.proofs.Common.{take}
use Rattle.c_chars.specs.Characters.{bytes_of}
use Rattle.c_grammar.proofs.Places.{first_only}
use Rattle.c_grammar.proofs.place.past_begun_in_text.Goals as goal

pub returns-in-Some : goal.returns-in-Some
returns-in-Some c = λ d n within e. c.in-Some.ensures d (take n (bytes_of c.args.text.now.chars)) (first_only c.args.first n (bytes_of c.args.text.now.chars) c.requires.first)
