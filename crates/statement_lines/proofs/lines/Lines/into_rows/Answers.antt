use Rattle.std.proofs.Common.{◌∙◌, List, ap, map}
use Rattle.statement_lines.specs.declared.line.Line.{Line}
use Rattle.statement_lines.specs.Lines.{row_of}
use Rattle.statement_lines.proofs.KeptLines.{told_rows}
use Rattle.statement_lines.proofs.lines.Lines.into_rows.Goals as goal

pub returns : goal.returns
returns c = told_rows c.self.inside.rows.items c.self.inside.levels.items ∙ ap (λ (ls : List Line). map row_of ls) c.self.view_is
