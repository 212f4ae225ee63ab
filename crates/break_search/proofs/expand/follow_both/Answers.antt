use Rattle.break_search.proofs.Choosing.{both_left, one_left, none_left, inner_kept, settled_kept}
use Rattle.break_search.proofs.expand.follow_both.Goals as goal

pub follow-requires-clause-search : goal.follow-requires-clause-search
follow-requires-clause-search c = both_left _ _ _ _ c.requires.search

pub follow-requires-2-clause-search : goal.follow-requires-2-clause-search
follow-requires-2-clause-search c = one_left _ _ _ _ c.in_ok-follow.ensures.search

pub follow-requires-2-clause-inner : goal.follow-requires-2-clause-inner
follow-requires-2-clause-inner c = inner_kept _ _ _ _ c.requires.inner c.in_ok-follow.ensures.settled

pub returns-clause-search : goal.returns-clause-search
returns-clause-search c = none_left _ _ _ _ c.in_ok-follow-2.ensures.search

pub returns-clause-settled : goal.returns-clause-settled
returns-clause-settled c = settled_kept _ _ _ c.in_ok-follow.ensures.settled c.in_ok-follow-2.ensures.settled
