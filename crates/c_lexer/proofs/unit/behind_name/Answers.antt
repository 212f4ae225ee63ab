use Rattle.std.proofs.Common.{◌∙◌, sym, refl, inl, inr}
use Rattle.c_chars.specs.Characters.{bytes_of}
use Rattle.c_lexer.proofs.UnitsOff.{name_off, name_none}
use Rattle.c_lexer.proofs.unit.behind_name.Goals as goal

pub returns-then-begins_name : goal.returns-then-begins_name
returns-then-begins_name c = name_off c.args.text.now c.behind.result 117 4 6 (inl (refl, refl)) (sym c.begins_name.ensures ∙ c.if-begins_name.true) refl c.behind.ensures

pub returns-then-begins_name-2 : goal.returns-then-begins_name-2
returns-then-begins_name-2 c = name_off c.args.text.now c.behind-then-begins_name-2.result 85 8 10 (inr (refl, refl)) (sym c.begins_name-2.ensures ∙ c.if-begins_name-2.true) refl c.behind-then-begins_name-2.ensures

pub returns : goal.returns
returns c = name_none (bytes_of c.args.text.now.chars) (sym c.begins_name.ensures ∙ c.if-begins_name.false) (sym c.begins_name-2.ensures ∙ c.if-begins_name-2.false)
