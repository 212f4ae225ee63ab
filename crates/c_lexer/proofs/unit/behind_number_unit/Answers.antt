use Rattle.std.proofs.Common.{◌∙◌, sym}
use Rattle.c_chars.specs.Characters.{bytes_of}
use Rattle.c_lexer.proofs.FirstBytes.{single_at}
use Rattle.c_lexer.proofs.UnitsOff.{pair_off, single_off, number_of_behind}
use Rattle.c_lexer.proofs.unit.behind_number_unit.Goals as goal

pub returns-then-begins_pair : goal.returns-then-begins_pair
returns-then-begins_pair c = pair_off c.args.dialect c.args.text.now c.behind.result (sym c.begins_pair.ensures ∙ c.if-begins_pair.true) c.behind.ensures

pub returns-then-is_single : goal.returns-then-is_single
returns-then-is_single c =
    single_off c.args.dialect c.args.text.now c.behind-then-is_single.result (sym c.begins_pair.ensures ∙ c.if-begins_pair.false) (sym (c.is_single.ensures ∙ single_at (bytes_of c.args.text.now.chars) c.byte_at.result c.byte_at.ensures) ∙ c.if-is_single.true) c.behind-then-is_single.ensures

pub returns : goal.returns
returns c =
    number_of_behind c.args.dialect c.args.text.now c.behind_rare.result (sym c.begins_pair.ensures ∙ c.if-begins_pair.false) (sym (c.is_single.ensures ∙ single_at (bytes_of c.args.text.now.chars) c.byte_at.result c.byte_at.ensures) ∙ c.if-is_single.false) c.behind_rare.ensures
