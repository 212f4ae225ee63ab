use Rattle.std.proofs.Common.{◌≡◌, ◌∙◌, List, ap, arith, length, sym}
use Rattle.statement_lines.specs.declared.line.Line.{Line}
use Rattle.statement_lines.proofs.KeptLines.{line_of_each_row}
use Rattle.statement_lines.proofs.lines.Lines.len.Goals as goal

pub returns : goal.returns
returns c =
    let rows = c.self.inside.rows.items in
    let many : length c.args.self.now ≡ length rows = sym (ap (λ (ls : List Line). length ls) c.self.view_is) ∙ line_of_each_row rows c.self.inside.levels.items in
    omega (arith, c.len.ensures, c.self.inside.rows.ok.0, many)
