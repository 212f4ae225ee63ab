use Rattle.std.proofs.Common.{◌∙◌, sym}
use Rattle.c_chars.specs.Characters.{bytes_of}
use Rattle.c_lexer.proofs.FirstBytes.{point_number}
use Rattle.c_lexer.proofs.front.begins_number.Goals as goal

pub returns-then-first-eq46 : goal.returns-then-first-eq46
returns-then-first-eq46 c =
    c.is_digit-then-first-eq46.ensures ∙ point_number c.args.first (bytes_of c.args.text.now.chars) c.byte_at.result c.requires (sym c.is_digit.ensures ∙ c.if-is_digit.false) c.if-first-eq46.true c.byte_at.ensures
