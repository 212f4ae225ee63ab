use Rattle.std.proofs.Common.{◌+◌, arith}
use Rattle.comment_rows.proofs.Others.{others_on}
use Rattle.comment_rows.proofs.trailing.others_end.Goals as goal

pub loop-first-preserved : goal.loop-first-preserved
loop-first-preserved c =
    let v = c.loop-first.invariant in
    let at = c.loop-first.first in
    record {
      later = omega (arith, v.later);
      within = omega (arith, v.within, c.loop-first-test.true);
      others = others_on c.args.tokens.now c.args.from at (at + 8) v.others (c.are_eight_others.ensures c.if-not-are_eight_others.false);
    }
