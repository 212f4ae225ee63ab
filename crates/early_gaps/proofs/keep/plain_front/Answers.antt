use Rattle.std.proofs.Common.{arith}
use Rattle.early_gaps.proofs.Staying.{eight_passed}
use Rattle.early_gaps.proofs.keep.plain_front.Goals as goal

pub loop-at-preserved : goal.loop-at-preserved
loop-at-preserved c =
    let v = c.loop-at.invariant in
    record {
      later = omega (arith, v.later);
      within = omega (arith, v.within, c.loop-at-test.true, c.len-count.ensures.count);
      passed = eight_passed c.args.arena.now c.args.frozen.now c.args.place c.loop-at.at v.passed (c.pass_eight.ensures c.if-not-pass_eight.false);
    }
