use Rattle.std.proofs.Common.{◌∙◌, sym}
use Rattle.unicode_ident.specs.Ident.{is_xid_continue}
use Rattle.c_chars.specs.Characters.{bytes_of}
use Rattle.c_lexer.proofs.FirstBytes.{beyond_at}
use Rattle.c_lexer.proofs.UnitsOff.{rare_none, rare_of_name, rare_of_wide, rare_refused, rare_neither}
use Rattle.c_lexer.proofs.unit.behind_rare.Goals as goal

pub returns-then-not-is_beyond : goal.returns-then-not-is_beyond
returns-then-not-is_beyond c = rare_none is_xid_continue (bytes_of c.args.text.now.chars) (sym (c.is_beyond.ensures ∙ beyond_at (bytes_of c.args.text.now.chars) c.byte_at.result c.byte_at.ensures) ∙ c.if-not-is_beyond.true)

pub returns-in-Some : goal.returns-in-Some
returns-in-Some c = rare_of_name is_xid_continue c.args.text.now c.in-Some.left c.in-Some.ensures

pub returns-in_default-next_char : goal.returns-in_default-next_char
returns-in_default-next_char c = rare_neither is_xid_continue (bytes_of c.args.text.now.chars) c.in_default.ensures c.in_default-next_char.ensures

pub returns-then-is_xid_continue : goal.returns-then-is_xid_continue
returns-then-is_xid_continue c =
    rare_of_wide is_xid_continue c.in-Some-next_char.character c.args.text.now c.in-Some-next_char.left (sym c.is_xid_continue.ensures.value ∙ c.if-is_xid_continue.true) c.in-Some-next_char.ensures

pub returns-else-is_xid_continue : goal.returns-else-is_xid_continue
returns-else-is_xid_continue c =
    rare_refused is_xid_continue c.in-Some-next_char.character c.args.text.now c.in-Some-next_char.left c.in_default.ensures (sym c.is_xid_continue.ensures.value ∙ c.if-is_xid_continue.false) c.in-Some-next_char.ensures
