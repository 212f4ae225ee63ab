use Rattle.std.proofs.Common.{arith}
use Rattle.token_arena.proofs.SegmentLemmas.{well}
use Rattle.token_arena.proofs.view.has_place.Goals as goal

pub overflow_sub-result-then-segment-place : goal.overflow_sub-result-then-segment-place
overflow_sub-result-then-segment-place c =
    omega (arith, (well c.args.segments.now 0 0 c.args.number (omega arith) c.requires.order c.requires.counts (omega (arith, c.if-number-segments.false))).some)
