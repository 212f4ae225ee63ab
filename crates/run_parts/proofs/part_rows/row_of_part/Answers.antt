use Rattle.std.proofs.Common.{◌≡◌, ◌∙◌, ◌+◌, ◌-◌, ◌<◌, ◌≤◌, length, get_or, ap, arith}
use Rattle.run_parts.proofs.RowsDecided.{row_items}
use Rattle.run_parts.proofs.part_rows.row_of_part.Goals as goal

pub prove-unreachable-requires-2 : goal.prove-unreachable-requires-2
prove-unreachable-requires-2 c =
    let view = c.args.view.now in
    let first = c.args.first in
    let behind = c.args.end - 1 - first in
    let far : behind ≤ c.row_behind.result = omega (arith, c.if-row_behind-behind.false) in
    let below : get_or view (first + behind) 0 < length c.args.arena.now.tokens = c.requires.within (first + behind) 0 (omega (arith, c.requires.some, c.requires.inside)) in
    omega (arith, below, c.row_behind.ensures.row behind far, c.len-items.ensures.count, c.if-prove-2.true)

pub returns-clause-items : goal.returns-clause-items
returns-clause-items c =
    let view = c.args.view.now in
    let first = c.args.first in
    let id = c.args.id.0 in
    let behind = c.args.end - 1 - first in
    let far : behind ≤ c.row_behind.result = omega (arith, c.if-row_behind-behind.false) in
    let e : c.args.end - 1 ≡ first + behind = omega (arith, c.requires.some) in
    let at : get_or view (c.args.end - 1) 0 ≡ id + behind = ap (λ k. get_or view k 0) e ∙ c.row_behind.ensures.row behind far in
    row_items view first c.args.end id (id + behind) c.len-count.ensures.increase c.requires.some c.requires.inside (c.requires.item 0) at (omega arith) (omega arith)
