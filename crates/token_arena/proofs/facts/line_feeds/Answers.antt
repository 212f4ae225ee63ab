use Rattle.std.proofs.Common.{arith}
use Rattle.token_arena.proofs.Feeds.{feeds_on, few_feeds}
use Rattle.token_arena.proofs.facts.line_feeds.Goals as goal

pub overflow_add-feeds : goal.overflow_add-feeds
overflow_add-feeds c =
    let cases = c.in-Some.ensures.cases in
    let on = feeds_on c.loop-sixteen.rest.now c.in-Some.sixteen.now c.in-Some.behind.now cases.0 cases.1 in
    omega (arith, on, few_feeds c.args.bytes.now, c.line_feeds_in-feeds.ensures, c.loop-sixteen.invariant)

pub loop-sixteen-preserved : goal.loop-sixteen-preserved
loop-sixteen-preserved c =
    let cases = c.in-Some.ensures.cases in
    let on = feeds_on c.loop-sixteen.rest.now c.in-Some.sixteen.now c.in-Some.behind.now cases.0 cases.1 in
    omega (arith, on, c.line_feeds_in-feeds.ensures, c.loop-sixteen.invariant)
