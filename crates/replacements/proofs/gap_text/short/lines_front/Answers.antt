use Rattle.replacements.specs.GapText.{blanks, indentation}
use Rattle.replacements.proofs.ShortLines.{one_end, two_ends}
use Rattle.replacements.proofs.gap_text.short.lines_front.Goals as goal

pub returns-in-1-clause-is : goal.returns-in-1-clause-is
returns-in-1-clause-is c = λ own.
    let column = c.args.column in
    one_end c.args.crlf c.args.count _ (indentation c.args.style.now own column) (blanks column) c.if-crlf.false c.in-1.is c.one_line.ensures.is (c.uses_no_tabs.ensures c.if-uses_no_tabs.true own column)

pub returns-in-2-clause-is : goal.returns-in-2-clause-is
returns-in-2-clause-is c = λ own.
    let column = c.args.column in
    two_ends c.args.crlf c.args.count _ (indentation c.args.style.now own column) (blanks column) c.if-crlf.false c.in-2.is c.two_lines.ensures.is (c.uses_no_tabs.ensures c.if-uses_no_tabs.true own column)
