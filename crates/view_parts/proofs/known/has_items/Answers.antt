use Rattle.std.proofs.Common.{◌≡◌, ◌∙◌, ◌+◌, ◌-◌, ◌≤◌, length, get_or, arith}
use Rattle.token_arena.specs.Segments.{no_segment}
use Rattle.view_parts.proofs.Spans.{inside_of, same_more, same_all}
use Rattle.view_parts.proofs.known.has_items.Goals as goal

pub overflow_add-place : goal.overflow_add-place
overflow_add-place c =
    let seen = c.segments-row-items in
    let fit = inside_of seen.result.now c.args.items.now c.loop-row.row-index seen.ensures.rule seen.ensures.items c.loop-row-test.true in
    omega (arith, fit.some, fit.within, c.if-len-first.false, c.len.ensures.count, c.requires)

pub overflow_sub-last : goal.overflow_sub-last
overflow_sub-last c =
    let seen = c.segments-row-items in
    let fit = inside_of seen.result.now c.args.items.now c.loop-row.row-index seen.ensures.rule seen.ensures.items c.loop-row-test.true in
    omega (arith, fit.some)

pub at_near-begun-requires : goal.at_near-begun-requires
at_near-begun-requires c =
    let seen = c.segments-row-items in
    let fit = inside_of seen.result.now c.args.items.now c.loop-row.row-index seen.ensures.rule seen.ensures.items c.loop-row-test.true in
    omega (arith, fit.some, fit.within, c.if-len-first.false, c.len.ensures.count, c.len-2.ensures.count, c.requires)

pub overflow_sub-last-in-loop-row : goal.overflow_sub-last-in-loop-row
overflow_sub-last-in-loop-row c =
    let seen = c.segments-row-items in
    let fit = inside_of seen.result.now c.args.items.now c.loop-row.row-index seen.ensures.rule seen.ensures.items c.loop-row-test.true in
    omega (arith, fit.some)

pub overflow_add-place-in-loop-row : goal.overflow_add-place-in-loop-row
overflow_add-place-in-loop-row c =
    let seen = c.segments-row-items in
    let fit = inside_of seen.result.now c.args.items.now c.loop-row.row-index seen.ensures.rule seen.ensures.items c.loop-row-test.true in
    omega (arith, fit.some, fit.within, c.if-len-first.false, c.len.ensures.count, c.requires)

pub at_near-ended-requires : goal.at_near-ended-requires
at_near-ended-requires c =
    let seen = c.segments-row-items in
    let fit = inside_of seen.result.now c.args.items.now c.loop-row.row-index seen.ensures.rule seen.ensures.items c.loop-row-test.true in
    omega (arith, fit.some, fit.within, c.if-len-first.false, c.len.ensures.count, c.len-2.ensures.count, c.requires)

pub loop-row-preserved : goal.loop-row-preserved
loop-row-preserved c =
    let seen = c.segments-row-items in
    let inside : c.args.first + length c.args.items.now ≤ length c.args.view.now = omega (arith, c.if-len-first.false, c.len.ensures.count, c.len-2.ensures.count, c.requires) in
    let at : c.at_near-begun.result.0 ≡ (get_or seen.result.now c.loop-row.row-index no_segment).first = omega (arith, c.if-begun-row.false) in
    let last : c.at_near-ended.result.0 ≡ (get_or seen.result.now c.loop-row.row-index no_segment).end - 1 = omega (arith, c.if-ended-last.false) in
    same_more c.args.view.now c.args.first c.args.items.now seen.result.now c.loop-row.row-index c.len-2.ensures.increase seen.ensures.rule seen.ensures.items c.loop-row-test.true inside (c.at_near-begun.ensures 0 ∙ at) (c.at_near-ended.ensures 0 ∙ last)
    c.loop-row.invariant

pub returns-clause-items : goal.returns-clause-items
returns-clause-items c = λ yes.
    let seen = c.segments-row-items in
    let inside : c.args.first + length c.args.items.now ≤ length c.args.view.now = omega (arith, c.if-len-first.false, c.len.ensures.count, c.len-2.ensures.count, c.requires) in
    same_all c.args.view.now c.args.first c.args.items.now seen.result.now c.loop-row.row-index seen.ensures.rule seen.ensures.items (omega (arith, c.loop-row-test.false)) inside c.loop-row.invariant
