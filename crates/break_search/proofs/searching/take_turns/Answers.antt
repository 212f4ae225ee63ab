use Rattle.break_search.proofs.Beginning.{begins_at_root}
use Rattle.break_search.proofs.Following.{comes_off}
use Rattle.break_search.proofs.searching.take_turns.Goals as goal

pub turns-init : goal.turns-init
turns-init c = (_, begins_at_root _ c.requires.line.some _ _ _ _ c.in_ok-paid.ensures.table c.requires.frontier _ c.least_over.ensures c.in_ok-push.ensures.pushes, comes_off _ _ _ c.pop-first.ensures.pops c.pop-first.ensures.none)
