use Rattle.std.proofs.Common.{◌+◌, arith}
use Rattle.line_gaps.proofs.OpenGaps.{open_both}
use Rattle.line_gaps.proofs.fixed.open_front.Goals as goal

pub loop-first-preserved : goal.loop-first-preserved
loop-first-preserved c = record {
  within = omega (arith, c.loop-first-test.true);
  front = open_both c.args.plan.now c.args.tokens.now c.loop-first.first (c.loop-first.first + 8) c.loop-first.invariant.front (c.are_eight_open.ensures c.if-not-are_eight_open.false);
}
