use Rattle.std.proofs.Common.{◌∙◌, sym}
use Rattle.layout_tables.proofs.Needs.{must_of_gap}
use Rattle.layout_tables.proofs.penalties.must_break.Goals as goal

pub returns : goal.returns
returns c = c.ends_by_first_rows.ensures ∙ sym (must_of_gap c.args.style.now c.args.left.now c.args.right.now)
