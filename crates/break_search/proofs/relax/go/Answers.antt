use Rattle.break_search.specs.declared.table.Way.TheVariants.{Nowhere, There, New}
use Rattle.break_search.proofs.Following.{can_go_on, at_way, nowhere_follows, there_search, there_inner, there_followed, new_follows, comes_off}
use Rattle.break_search.proofs.relax.go.Goals as goal

pub reach-requires-clause-on : goal.reach-requires-clause-on
reach-requires-clause-on c = can_go_on _ c.requires.line.some _ _ _ _ c.requires.search c.requires.inner

pub improve-requires-clause-search : goal.improve-requires-clause-search
improve-requires-clause-search c = let w = at_way _ _ _ _ _ _ (There c.in-There.at c.in-There.cost c.in-There.index) c.in-There.is c.in_ok-reach.ensures in there_search _ c.requires.line.some _ _ _ _ _ c.requires.search c.requires.inner w.0 _ _ _ w.1

pub improve-requires-clause-inner : goal.improve-requires-clause-inner
improve-requires-clause-inner c = let w = at_way _ _ _ _ _ _ (There c.in-There.at c.in-There.cost c.in-There.index) c.in-There.is c.in_ok-reach.ensures in there_inner _ c.requires.line.some _ _ _ _ _ c.requires.search c.requires.inner w.0 _ _ _ w.1

pub improve-requires-clause-there : goal.improve-requires-clause-there
improve-requires-clause-there c = let w = at_way _ _ _ _ _ _ (There c.in-There.at c.in-There.cost c.in-There.index) c.in-There.is c.in_ok-reach.ensures in w.1

pub returns-in-Nowhere-clause-search : goal.returns-in-Nowhere-clause-search
returns-in-Nowhere-clause-search c =
    let w = at_way _ _ _ _ _ _ Nowhere c.in-Nowhere.is c.in_ok-reach.ensures in (_, (nowhere_follows _ c.requires.line.some _ _ _ _ c.requires.search c.requires.inner _ w).0, comes_off _ _ _ c.pop.ensures.pops c.pop.ensures.none)

pub returns-in-Nowhere-clause-settled : goal.returns-in-Nowhere-clause-settled
returns-in-Nowhere-clause-settled c =
    let w = at_way _ _ _ _ _ _ Nowhere c.in-Nowhere.is c.in_ok-reach.ensures in (nowhere_follows _ c.requires.line.some _ _ _ _ c.requires.search c.requires.inner _ w).1

pub returns-in_ok-improve-in-There-clause-search : goal.returns-in_ok-improve-in-There-clause-search
returns-in_ok-improve-in-There-clause-search c =
    let w = at_way _ _ _ _ _ _ (There c.in-There.at c.in-There.cost c.in-There.index) c.in-There.is c.in_ok-reach.ensures in (_, (there_followed _ c.requires.line.some _ _ _ _ _ c.requires.search c.requires.inner w.0 _ _ _ w.1 _ _ (c.in_ok-improve-in-There.ensures.search, c.in_ok-improve-in-There.ensures.settled)).0, comes_off _ _ _ c.pop-in-There.ensures.pops c.pop-in-There.ensures.none)

pub returns-in_ok-improve-in-There-clause-settled : goal.returns-in_ok-improve-in-There-clause-settled
returns-in_ok-improve-in-There-clause-settled c =
    let w = at_way _ _ _ _ _ _ (There c.in-There.at c.in-There.cost c.in-There.index) c.in-There.is c.in_ok-reach.ensures in (there_followed _ c.requires.line.some _ _ _ _ _ c.requires.search c.requires.inner w.0 _ _ _ w.1 _ _ (c.in_ok-improve-in-There.ensures.search, c.in_ok-improve-in-There.ensures.settled)).1

pub returns-in_ok-first-in-New-clause-search : goal.returns-in_ok-first-in-New-clause-search
returns-in_ok-first-in-New-clause-search c =
    let w = at_way _ _ _ _ _ _ (New c.in-New.at c.in-New.least c.in-New.index) c.in-New.is c.in_ok-reach.ensures in let e = c.in_ok-first-in-New.ensures.exchanges in (e.0, (new_follows _ c.requires.line.some _ _ _ _ c.requires.search c.requires.inner _ _ w.cost _ w.is_new _ _ w.told e.1).0, e.2)

pub returns-in_ok-first-in-New-clause-settled : goal.returns-in_ok-first-in-New-clause-settled
returns-in_ok-first-in-New-clause-settled c =
    let w = at_way _ _ _ _ _ _ (New c.in-New.at c.in-New.least c.in-New.index) c.in-New.is c.in_ok-reach.ensures in let e = c.in_ok-first-in-New.ensures.exchanges in (new_follows _ c.requires.line.some _ _ _ _ c.requires.search c.requires.inner _ _ w.cost _ w.is_new _ _ w.told e.1).1
