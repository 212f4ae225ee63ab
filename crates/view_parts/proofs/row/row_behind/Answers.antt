use Rattle.std.proofs.Common.{sym, arith}
use Rattle.token_arena.specs.Segments.{HasPlace}
use Rattle.token_arena.proofs.SegmentLemmas.{well}
use Rattle.view_parts.proofs.Rows.{segment_row}
use Rattle.view_parts.proofs.SegmentNumbers.{no_row_in, row_in}
use Rattle.view_parts.proofs.row.row_behind.Goals as goal

pub overflow_sub-segment : goal.overflow_sub-segment
overflow_sub-segment c =
    let is = well c.segments-segments.result.now 0 0 c.args.number (omega arith) c.segments-segments.ensures.rule.order c.segments-segments.ensures.rule.counts c.if-number-segments.true in
    omega (arith, is.some)

pub overflow_sub-result-then-place-segment : goal.overflow_sub-result-then-place-segment
overflow_sub-result-then-place-segment c =
    let segments = c.segments-segments.result.now in
    let has : HasPlace segments c.args.place c.args.number = record { low = c.if-segment-place.true; high = omega (arith, c.if-segment-place.true, c.if-place-segment.true) } in
    let row = segment_row segments c.args.view.now c.args.number c.args.place c.args.id.0 c.segments-segments.ensures.rule c.segments-segments.ensures.items c.if-number-segments.true has c.requires.item in
    omega (arith, row.some)

pub returns-then-place-segment-clause-within : goal.returns-then-place-segment-clause-within
returns-then-place-segment-clause-within c =
    let segments = c.segments-segments.result.now in
    let has : HasPlace segments c.args.place c.args.number = record { low = c.if-segment-place.true; high = omega (arith, c.if-segment-place.true, c.if-place-segment.true) } in
    let row = segment_row segments c.args.view.now c.args.number c.args.place c.args.id.0 c.segments-segments.ensures.rule c.segments-segments.ensures.items c.if-number-segments.true has c.requires.item in
    omega (arith, row.some, row.within)

pub returns-then-place-segment-clause-row : goal.returns-then-place-segment-clause-row
returns-then-place-segment-clause-row c =
    let segments = c.segments-segments.result.now in
    let has : HasPlace segments c.args.place c.args.number = record { low = c.if-segment-place.true; high = omega (arith, c.if-segment-place.true, c.if-place-segment.true) } in
    let row = segment_row segments c.args.view.now c.args.number c.args.place c.args.id.0 c.segments-segments.ensures.rule c.segments-segments.ensures.items c.if-number-segments.true has c.requires.item in
    λ k below. row.row k (omega (arith, row.some, below))

pub returns-then-place-segment-clause-count : goal.returns-then-place-segment-clause-count
returns-then-place-segment-clause-count c =
    let segments = c.segments-segments.result.now in
    let has : HasPlace segments c.args.place c.args.number = record { low = c.if-segment-place.true; high = omega (arith, c.if-segment-place.true, c.if-place-segment.true) } in
    sym (row_in segments c.args.view.now c.args.place c.args.number c.args.id.0 c.segments-segments.ensures.rule c.segments-segments.ensures.items c.if-number-segments.true has c.requires.item)

pub returns-else-segment-place-clause-count : goal.returns-else-segment-place-clause-count
returns-else-segment-place-clause-count c =
    let segments = c.segments-segments.result.now in
    sym (no_row_in segments c.args.view.now c.args.place c.args.number c.segments-segments.ensures.rule c.segments-segments.ensures.items c.requires.here (λ within has. search (arith, has.low, has.high)))

pub returns-else-number-segments-clause-count : goal.returns-else-number-segments-clause-count
returns-else-number-segments-clause-count c =
    let segments = c.segments-segments.result.now in
    sym (no_row_in segments c.args.view.now c.args.place c.args.number c.segments-segments.ensures.rule c.segments-segments.ensures.items c.requires.here (λ within has. omega (arith, within, c.if-number-segments.false)))
