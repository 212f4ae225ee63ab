use Rattle.std.proofs.Common.{arith, rules}
use Rattle.std.proofs.lemmas.List.{map-append}
use Rattle.token_arena.specs.Segments.{segment_bounds}
use Rattle.token_arena.proofs.SegmentLemmas.{room, taken_pairs, taken_places, counted_push}
use Rattle.token_arena.proofs.view.View.of_stretches.Goals as goal

pub overflow_sub-before : goal.overflow_sub-before
overflow_sub-before c =
    omega (arith, (room c.args.stretches.now c.loop-stretch.stretch-index (record { first = 0; end = 0 }) c.requires c.loop-stretch-test.true).1)

pub overflow_add-before : goal.overflow_add-before
overflow_add-before c =
    let r = room c.args.stretches.now c.loop-stretch.stretch-index (record { first = 0; end = 0 }) c.requires c.loop-stretch-test.true in
    search (rules, arith, r.0, r.1, c.loop-stretch.invariant.total)

pub loop-stretch-preserved : goal.loop-stretch-preserved
loop-stretch-preserved c =
    let i = c.loop-stretch.invariant in
    let pairs = taken_pairs c.args.stretches.now c.loop-stretch.stretch-index (record { first = 0; end = 0 }) c.loop-stretch-test.true in
    let more = taken_places c.args.stretches.now c.loop-stretch.stretch-index (record { first = 0; end = 0 }) c.loop-stretch-test.true in
    record {
      same = rw (c.in_ok-push.ensures.items, pairs, ← i.same) (map-append segment_bounds c.loop-stretch.segments.items _);
      counted = rw c.in_ok-push.ensures.items (counted_push c.loop-stretch.segments.items 0 _ i.counted (rw i.same (omega (arith, i.total))));
      total = rw (more, ← i.total) (search rules);
    }
