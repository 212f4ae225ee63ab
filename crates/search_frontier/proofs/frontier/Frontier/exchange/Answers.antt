use Rattle.std.proofs.Common.{arith, ap, length}
use Rattle.search_frontier.specs.Frontier.{entry}
use Rattle.search_frontier.proofs.Queue.{queue_more, pushed_behind, one_more, goes_nowhere}
use Rattle.search_frontier.proofs.frontier.Frontier.exchange.Goals as goal

pub returns-then-is_least-clause-exchanges : goal.returns-then-is_least-clause-exchanges
returns-then-is_least-clause-exchanges c = rw (← c.self.view_is) (goes_nowhere (entry c.args.least c.args.index c.args.node) _ c.if-is_least.ensures.yes)

pub invariant_of-self-2 : goal.invariant_of-self-2
invariant_of-self-2 c = queue_more c.self.inside.first c.self.inside.top (entry c.args.least c.args.index c.args.node) _ _ c.self.invariant c.in_ok-push_behind.ensures.permutation c.in_ok-push_behind.ensures.heap_order c.if-is_least.ensures.no

pub unreachable-requires : goal.unreachable-requires
unreachable-requires c = omega (arith, one_more c.self.inside.first (entry c.args.least c.args.index c.args.node) _ _ c.in_ok-push_behind.ensures.permutation, ap length c.in-None.ensures.none)

pub returns-clause-exchanges : goal.returns-clause-exchanges
returns-clause-exchanges c = (_, rw (← c.self.view_is) (pushed_behind c.self.inside.first (entry c.args.least c.args.index c.args.node) _ _ c.in_ok-push_behind.ensures.permutation), c.in-Some.ensures.pops)

pub returns-clause-len : goal.returns-clause-len
returns-clause-len c =
    rw (← c.self.view_is) (omega (arith, one_more c.self.inside.first (entry c.args.least c.args.index c.args.node) _ _ c.in_ok-push_behind.ensures.permutation, c.in-Some.ensures.len))
