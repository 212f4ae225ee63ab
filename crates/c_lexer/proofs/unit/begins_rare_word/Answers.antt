use Rattle.std.proofs.Common.{◌∙◌, sym}
use Rattle.unicode_ident.specs.Ident.{is_xid_start}
use Rattle.c_chars.specs.Characters.{bytes_of}
use Rattle.c_lexer.proofs.FirstBytes.{beyond_at}
use Rattle.c_lexer.proofs.UnitsOff.{rare_none, name_begins, wide_begins, rare_refused, rare_neither}
use Rattle.c_lexer.proofs.unit.begins_rare_word.Goals as goal

pub returns-then-not-is_beyond-clause-no : goal.returns-then-not-is_beyond-clause-no
returns-then-not-is_beyond-clause-no c = λ h. rare_none is_xid_start (bytes_of c.args.text.now.chars) (sym (c.is_beyond.ensures ∙ beyond_at (bytes_of c.args.text.now.chars) c.byte_at.result c.byte_at.ensures) ∙ c.if-not-is_beyond.true)

pub returns-in-Some-clause-yes : goal.returns-in-Some-clause-yes
returns-in-Some-clause-yes c = λ h. name_begins is_xid_start c.args.text.now c.in-Some.field-0 c.in-Some.ensures

pub returns-in-Some-next_char-clause-yes : goal.returns-in-Some-next_char-clause-yes
returns-in-Some-next_char-clause-yes c = λ h. wide_begins is_xid_start c.in-Some-next_char.character c.args.text.now c.in-Some-next_char.field-0-1 (sym c.is_xid_start.ensures.value ∙ h) c.in-Some-next_char.ensures

pub returns-in-Some-next_char-clause-no : goal.returns-in-Some-next_char-clause-no
returns-in-Some-next_char-clause-no c = λ h. rare_refused is_xid_start c.in-Some-next_char.character c.args.text.now c.in-Some-next_char.field-0-1 c.in_default.ensures (sym c.is_xid_start.ensures.value ∙ h) c.in-Some-next_char.ensures

pub returns-in-None-clause-no : goal.returns-in-None-clause-no
returns-in-None-clause-no c = λ h. rare_neither is_xid_start (bytes_of c.args.text.now.chars) c.in_default.ensures c.in-None.ensures
