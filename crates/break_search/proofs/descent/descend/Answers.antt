use Rattle.std.proofs.Common.{refl, arith}
use Rattle.line_state.specs.StoredStates.{layout_in}
use Rattle.break_search.proofs.Descending.{begins}
use Rattle.break_search.proofs.descent.descend.Goals as goal

pub take_turns-requires-clause-begins : goal.take_turns-requires-clause-begins
take_turns-requires-clause-begins c =
    begins _ c.requires.line.some _ _ _ c.in_ok-state.ensures.known c.in_ok-state.ensures.layout refl _ c.cells_in-own.ensures.value (omega (arith, c.if-own-budget.false)) (omega (arith, c.if-count-lt2.false, c.count-count.ensures)) _ _ _ c.in_ok-trail.ensures c.in_ok-push.ensures _ (c.least_ahead-least.ensures (layout_in c.first.new.store c.in_ok-state.state) refl refl) _ (omega arith)
