use Rattle.std.proofs.Common.{◌≡◌, ◌∙◌, ◌+◌, ◌-◌, ◌≤◌, get_or, ap, arith}
use Rattle.view_parts.proofs.Rows.{noted_end}
use Rattle.view_parts.proofs.NotedRows.{row_in_view}
use Rattle.view_parts.proofs.known.noted_row.Goals as goal

pub prove-unreachable-requires : goal.prove-unreachable-requires
prove-unreachable-requires c =
    let told = c.requires.told in
    let below = c.requires.within (c.args.part.now.told - 1) 0 (omega (arith, told.inside, told.later)) in
    omega (arith, below, c.at_near-last.ensures 0, c.if-prove.true, c.len-items.ensures.count)

pub returns-clause-known : goal.returns-clause-known
returns-clause-known c =
    let part = c.args.part.now in
    let told = c.requires.told in
    let last = c.at_near-last.result.0 in
    let low : part.first.id.0 ≤ last = omega (arith, c.if-last-first.false) in
    let is : last - part.first.id.0 ≡ part.told - 1 - part.first.place = omega (arith, c.if-last-first-2.false) in
    noted_end c.args.source.now.arena.now c.args.source.now.view.now part.first.place part.first.id.0 part.end part.told last c.len-count.ensures.increase told.some told.later told.inside told.item (c.at_near-last.ensures 0) low is told.ends

pub returns-clause-row : goal.returns-clause-row
returns-clause-row c =
    let part = c.args.part.now in
    let told = c.requires.told in
    let last = c.at_near-last.result.0 in
    let id = part.first.id.0 in
    let first = part.first.place in
    let behind = part.told - 1 - first in
    let low : id ≤ last = omega (arith, c.if-last-first.false) in
    let is : last - id ≡ behind = omega (arith, c.if-last-first-2.false) in
    let place : first + behind ≡ part.told - 1 = omega (arith, told.some, told.later) in
    row_in_view c.args.source.now.view.now first id behind part.end _ c.len-count.ensures.increase (omega (arith, place, told.some, told.later, told.inside)) told.item
    (ap (λ k. get_or c.args.source.now.view.now k 0) place ∙ (c.at_near-last.ensures 0 ∙ omega (arith, low, is))) (omega (arith, told.some)) (omega (arith, told.some, told.later)) (omega (arith, told.some))
