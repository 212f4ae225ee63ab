use Rattle.search_nodes.proofs.Grouping.{more_kept}
use Rattle.search_nodes.proofs.adding.fill_up.Goals as goal

pub more-preserved : goal.more-preserved
more-preserved c = λ i d u h. more_kept _ _ _ c.in_ok-push.ensures.items i d u (c.more.invariant i d u h)

pub returns-in_err-push-clause-kept : goal.returns-in_err-push-clause-kept
returns-in_err-push-clause-kept c = rw c.in_err-push.ensures.items c.more.invariant
