use Rattle.std.proofs.Common.{◌∙◌, arith}
use Rattle.line_gaps.specs.Rows.{item_before}
use Rattle.line_gaps.proofs.FirstRows.{row_at_once}
use Rattle.line_gaps.proofs.first.first_decision.Goals as goal

pub begins_next_row-requires : goal.begins_next_row-requires
begins_next_row-requires c = omega (arith, c.requires.items c.args.line.now.first 0 c.requires.place, c.requires.id)

pub returns-then-begins_next_row : goal.returns-then-begins_next_row
returns-then-begins_next_row c =
    c.next_row.ensures
    ∙ row_at_once c.args.layout.now.style.now c.args.layout.now.arena.now c.args.line.now (item_before c.args.layout.now.view.now c.args.line.now.first) c.args.id
    (c.begins_next_row.ensures.later c.if-begins_next_row.true) (c.begins_next_row.ensures.near c.if-begins_next_row.true)

pub first_of_line-requires : goal.first_of_line-requires
first_of_line-requires c = omega (arith, c.requires.items c.args.line.now.first 0 c.requires.place, c.requires.id)
