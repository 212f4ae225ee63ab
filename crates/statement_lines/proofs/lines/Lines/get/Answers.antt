use Rattle.std.proofs.Common.{◌≡◌, ◌<◌, ◌≤◌, ◌∙◌, ℕ, List, ap, arith, length, sym}
use Rattle.std.specs.Prelude.{slice_get, slice_index_or}
use Rattle.std.proofs.lemmas.Option.{slice_get_past}
use Rattle.statement_lines.specs.declared.line.Line.{Line}
use Rattle.statement_lines.specs.Lines.{lines_told}
use Rattle.statement_lines.proofs.KeptLines.{told_at, line_of_each_row}
use Rattle.statement_lines.proofs.lines.Lines.get.Goals as goal

pub returns-then-len-number : goal.returns-then-len-number
returns-then-len-number c =
    let rows = c.self.inside.rows.items in
    let levels = c.self.inside.levels.items in
    let many : length (lines_told rows levels) ≡ length rows = line_of_each_row rows levels in
    let past : length (lines_told rows levels) ≤ c.args.number = omega (arith, many, c.if-len-number.true, c.len.ensures, c.self.inside.rows.ok.0) in
    sym (slice_get_past (lines_told rows levels) c.args.number past) ∙ ap (λ (ls : List Line). slice_get ls c.args.number) c.self.view_is

pub returns : goal.returns
returns c =
    let rows = c.self.inside.rows.items in
    let within : c.args.number < length rows = omega (arith, c.if-len-number.false, c.len.ensures, c.self.inside.rows.ok.0) in
    told_at rows c.self.inside.levels.items c.args.number c.index-row.result.now c.kept_level.result within c.index-row.ensures (c.kept_level.ensures ∙ ap (λ (ls : List ℕ). slice_index_or ls c.args.number c.index-row.result.now.level) c.deref.ensures.value)
    ∙ ap (λ (ls : List Line). slice_get ls c.args.number) c.self.view_is
