use Rattle.std.proofs.Common.{◌≡◌, ◌∙◌, false, sym}
use Rattle.c_chars.specs.Characters.{bytes_of}
use Rattle.c_lexer.proofs.FirstBytes.{long_at, no_second, stands_alone}
use Rattle.c_lexer.proofs.Puncts.{may_be_long, not_long}
use Rattle.c_lexer.proofs.MarksOff.{mark_off}
use Rattle.c_lexer.proofs.cut.cut_mark.Goals.{then-not-begins_long-via-then-not-begins_long, then-not-begins_long-via-else-not-begins_long+then-not-goes_on_long}
use Rattle.c_lexer.proofs.cut.cut_mark.Goals as goal

pub returns : goal.returns
returns c = mark_off c.args.text.now c.behind-2.result c.args.dialect c.text_len.result c.requires.dialect c.requires.mark c.requires.number c.requires.block c.requires.line c.text_len.ensures c.behind-2.ensures

pub returns-then-not-begins_long : goal.returns-then-not-begins_long
returns-then-not-begins_long c =
    let short : may_be_long (bytes_of c.args.text.now.chars) ≡ false = elim c.then-not-begins_long.branch [
      | then-not-begins_long-via-then-not-begins_long w ↦ stands_alone c.args.first (bytes_of c.args.text.now.chars) c.requires.first (sym c.begins_long.ensures ∙ w.if-not-begins_long.true)
      | then-not-begins_long-via-else-not-begins_long+then-not-goes_on_long w ↦ no_second (bytes_of c.args.text.now.chars) (sym (w.goes_on_long.ensures ∙ long_at (bytes_of c.args.text.now.chars) w.byte_at.result w.byte_at.ensures) ∙ w.if-not-goes_on_long.true)
    ] in
    mark_off c.args.text.now c.behind.result c.args.dialect 1 c.requires.dialect c.requires.mark c.requires.number c.requires.block c.requires.line (sym (not_long c.args.dialect (bytes_of c.args.text.now.chars) short)) c.behind.ensures
