use Rattle.std.proofs.Common.{◌∙◌, sym, ap}
use Rattle.c_grammar.specs.Grammar.{is_new_line}
use Rattle.c_lexer.proofs.Quiet.{quiet_line, quiet_line_own}
use Rattle.c_lexer.proofs.comment.cut_plain_line.Goals as goal

pub returns-then-is_new_line-clause-off : goal.returns-then-is_new_line-clause-off
returns-then-is_new_line-clause-off c =
    let begun = c.args.begun.now in
    quiet_line begun.text begun.behind c.behind-left.result c.pass_quiet_words.new.self begun.first c.args.second c.requires.begun c.if-begun-ne47.false c.requires.second c.if-second-ne47.false c.behind-left.ensures
    c.pass_quiet_words.ensures.passed (ap is_new_line (sym c.byte_at.ensures) ∙ (sym c.is_new_line.ensures ∙ c.if-is_new_line.true))

pub returns-then-is_new_line-clause-plain : goal.returns-then-is_new_line-clause-plain
returns-then-is_new_line-clause-plain c =
    let begun = c.args.begun.now in
    quiet_line_own begun.behind c.behind-left.result c.pass_quiet_words.new.self begun.first c.args.second c.if-begun-ne47.false c.requires.second c.requires.plain.0 c.requires.plain.1 c.if-second-ne47.false
    c.behind-left.ensures c.pass_quiet_words.ensures.bytes
