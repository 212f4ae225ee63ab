use Rattle.std.proofs.Common.{◌∙◌, sym}
use Rattle.c_lexer.proofs.CutOffs.{empty_off}
use Rattle.c_lexer.proofs.MarksOff.{char_there, stray_there, string_there}
use Rattle.c_lexer.proofs.cut.cut_quoted.Goals as goal

pub returns-then-begins_two : goal.returns-then-begins_two
returns-then-begins_two c = empty_off c.args.text.now c.behind.result c.behind_line.result (sym c.begins_two.ensures ∙ c.if-begins_two.true) c.behind.ensures c.behind_line.ensures

pub returns-then-not-closed : goal.returns-then-not-closed
returns-then-not-closed c =
    stray_there c.args.text.now c.behind-2.result c.behind_quote-closed.result.1 c.args.first c.requires.first c.requires.quote c.behind-2.ensures c.behind_quote-closed.ensures.rest
    (sym c.behind_quote-closed.ensures.closed ∙ c.if-not-closed.true)

pub returns-then-first-eq39 : goal.returns-then-first-eq39
returns-then-first-eq39 c =
    char_there c.args.text.now c.behind-2.result c.behind_quote-closed.result.1 c.args.first c.requires.first c.if-first-eq39.true (sym c.begins_two.ensures ∙ c.if-begins_two.false) c.behind-2.ensures
    c.behind_quote-closed.ensures.rest (sym c.behind_quote-closed.ensures.closed ∙ c.if-not-closed.false)

pub returns-else-first-eq39 : goal.returns-else-first-eq39
returns-else-first-eq39 c =
    string_there c.args.text.now c.behind-2.result c.behind_quote-closed.result.1 c.args.first c.requires.first c.requires.quote c.if-first-eq39.false c.behind-2.ensures c.behind_quote-closed.ensures.rest
    (sym c.behind_quote-closed.ensures.closed ∙ c.if-not-closed.false)
