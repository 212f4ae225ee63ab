use Rattle.std.proofs.Common.{◌∙◌, ap}
use Rattle.line_gaps.specs.InputColumns.{column_through}
use Rattle.early_gaps.proofs.InputColumns.{column_begun}
use Rattle.early_gaps.proofs.columns.begun_column.Goals as goal

pub returns : goal.returns
returns c =
    c.column_through.ensures
    ∙ (ap (column_through c.args.tab 0) c.gap.ensures ∙ column_begun c.args.tab c.args.arena.now c.args.first c.args.known.place c.if-first-known.false c.requires.starts)
