use Rattle.break_search.proofs.Forks.{if_some_at}
use Rattle.break_search.proofs.Answering.{straight_outcome}
use Rattle.break_search.proofs.searching.tell_straight.Goals as goal

pub returns : goal.returns
returns c = straight_outcome c.args.line.now c.args.budget _ _ (if_some_at _ _ c.in_ok-breaks.ensures _ c.in-Some.is) c.requires.paid _ c.in_ok-outcome.ensures
