use Rattle.std.proofs.Common.{arith}
use Rattle.token_arena.proofs.SegmentLemmas.{well}
use Rattle.line_gaps.proofs.stretches.rest_at.Goals as goal

pub overflow_sub-count : goal.overflow_sub-count
overflow_sub-count c =
    omega (arith, (well c.args.segments.now 0 0 c.args.number (omega arith) c.requires.order c.requires.counts (omega (arith, c.if-number-segments.false))).some)
