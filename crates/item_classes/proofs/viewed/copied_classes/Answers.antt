use Rattle.std.proofs.Common.{◌≤◌, ◌-◌, ◌∙◌, ◌++◌, ap, sym, arith, length, map, take, drop, get_or}
use Rattle.std.proofs.lemmas.List.{length-map}
use Rattle.token_arena.specs.Segments.{ids_of, segment_bounds, no_segment}
use Rattle.item_classes.specs.Viewed.{item_class, class_of}
use Rattle.item_classes.proofs.ItemClasses.{row_classes, segment_more, viewed_fits}
use Rattle.item_classes.proofs.Lists.{few_below}
use Rattle.item_classes.proofs.viewed.copied_classes.Goals as goal

pub prove-unreachable-requires : goal.prove-unreachable-requires
prove-unreachable-requires c =
    let few : length c.args.view.now ≤ length c.args.arena.now.tokens - 0 = few_below 0 (length c.args.arena.now.tokens) c.args.view.now c.len-count.ensures.increase c.requires.within in
    omega (arith, few, c.if-prove.true, c.len-count.ensures.count, c.len-items.ensures.count)

pub slice_bounds-extend_from_slice-count : goal.slice_bounds-extend_from_slice-count
slice_bounds-extend_from_slice-count c =
    let seen = c.segments-segment-items in
    let fits = viewed_fits (length c.args.arena.now.tokens) c.args.view.now seen.result.now c.loop-segment.segment-index seen.ensures.rule seen.ensures.items c.requires.within c.loop-segment-test.true in
    omega (arith, fits.some)

pub slice_bounds-extend_from_slice-start : goal.slice_bounds-extend_from_slice-start
slice_bounds-extend_from_slice-start c =
    let seen = c.segments-segment-items in
    let segment = get_or seen.result.now c.loop-segment.segment-index no_segment in
    let fits = viewed_fits (length c.args.arena.now.tokens) c.args.view.now seen.result.now c.loop-segment.segment-index seen.ensures.rule seen.ensures.items c.requires.within c.loop-segment-test.true in
    let ordered : segment.first ≤ segment.end = omega (arith, fits.some) in
    ordered

pub slice_bounds-extend_from_slice-end : goal.slice_bounds-extend_from_slice-end
slice_bounds-extend_from_slice-end c =
    let seen = c.segments-segment-items in
    let arena = c.args.arena.now in
    let segment = get_or seen.result.now c.loop-segment.segment-index no_segment in
    let fits = viewed_fits (length arena.tokens) c.args.view.now seen.result.now c.loop-segment.segment-index seen.ensures.rule seen.ensures.items c.requires.within c.loop-segment-test.true in
    let count = ap length c.requires.all ∙ length-map arena.tokens (class_of arena.dialect) in
    let within : segment.end ≤ length c.args.all.now = omega (arith, fits.end, count) in
    within

pub loop-segment-preserved : goal.loop-segment-preserved
loop-segment-preserved c =
    let arena = c.args.arena.now in
    let seen = c.segments-segment-items in
    let segments = seen.result.now in
    let i = c.loop-segment.segment-index in
    let segment = get_or segments i no_segment in
    let count = segment.end - segment.first in
    let before = map (item_class arena) (ids_of (map segment_bounds (take i segments))) in
    let fits = viewed_fits (length arena.tokens) c.args.view.now segments i seen.ensures.rule seen.ensures.items c.requires.within c.loop-segment-test.true in
    c.in_ok-extend_from_slice.ensures.items
    ∙ ap (λ classes. classes ++ take count (drop segment.first c.args.all.now)) c.loop-segment.invariant
    ∙ ap (λ all. before ++ take count (drop segment.first all)) c.requires.all
    ∙ ap (λ classes. before ++ classes) (row_classes arena segment.first count (omega (arith, fits.some, fits.end)))
    ∙ sym (segment_more arena segments i c.loop-segment-test.true)
