use Rattle.std.proofs.Common.{arith}
use Rattle.line_gaps.proofs.Counting.{counted_on, counted_back}
use Rattle.line_gaps.proofs.line_count.feeds_before.Goals as goal

pub returns-then-count-to : goal.returns-then-count-to
returns-then-count-to c = counted_on c.args.text.now c.args.count.offset c.args.to c.args.count.feeds c.line_feeds.result c.requires.counted c.if-count-to.true c.line_feeds.ensures

pub overflow_sub-result : goal.overflow_sub-result
overflow_sub-result c =
    let back = counted_back c.args.text.now c.args.count.offset c.args.to c.args.count.feeds c.line_feeds-2.result c.requires.counted (omega (arith, c.if-count-to.false)) c.line_feeds-2.ensures in
    omega (arith, back)

pub returns : goal.returns
returns c =
    let back = counted_back c.args.text.now c.args.count.offset c.args.to c.args.count.feeds c.line_feeds-2.result c.requires.counted (omega (arith, c.if-count-to.false)) c.line_feeds-2.ensures in
    omega (arith, back)
