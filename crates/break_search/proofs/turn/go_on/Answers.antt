use Rattle.break_search.proofs.Following.{comes_off}
use Rattle.break_search.proofs.TurnFacts.{within_in, levels_in, parents_in, paths_in, best_level, goes_whole, inner_in, goes_passed, goes_inner}
use Rattle.break_search.proofs.turn.go_on.Goals as goal

pub is_whole-requires-clause-at : goal.is_whole-requires-clause-at
is_whole-requires-clause-at c = within_in _ c.requires.line.some _ _ _ _ _ c.requires.settled.1

pub is_whole-requires-clause-levels : goal.is_whole-requires-clause-levels
is_whole-requires-clause-levels c = levels_in _ c.requires.line.some _ _ _ _ _ c.requires.settled.1

pub choose-chosen-requires-clause-parents : goal.choose-chosen-requires-clause-parents
choose-chosen-requires-clause-parents c = parents_in _ c.requires.line.some _ _ _ _ _ c.requires.settled.1

pub choose-chosen-requires-clause-apart : goal.choose-chosen-requires-clause-apart
choose-chosen-requires-clause-apart c = paths_in _ c.requires.line.some _ _ _ _ _ c.requires.settled.1

pub choose-chosen-requires-clause-level : goal.choose-chosen-requires-clause-level
choose-chosen-requires-clause-level c = best_level _ c.requires.line.some _ _ _ _ _ c.requires.settled.1 _ c.is_whole.ensures.yes c.if-is_whole.true

pub returns-then-is_whole-clause-takes : goal.returns-then-is_whole-clause-takes
returns-then-is_whole-clause-takes c = λ cells budget settled small. (
  _,
  goes_whole _ c.requires.line.some _ _ cells _ _ settled _ c.is_whole.ensures.yes c.if-is_whole.true _ c.choose-chosen.ensures budget small,
  comes_off _ _ _ c.pop.ensures.pops c.pop.ensures.none,
)

pub is_dominated-requires-clause-parents : goal.is_dominated-requires-clause-parents
is_dominated-requires-clause-parents c = parents_in _ c.requires.line.some _ _ _ _ _ c.requires.settled.1

pub is_dominated-requires-clause-apart : goal.is_dominated-requires-clause-apart
is_dominated-requires-clause-apart c = paths_in _ c.requires.line.some _ _ _ _ _ c.requires.settled.1

pub is_dominated-requires-clause-levels : goal.is_dominated-requires-clause-levels
is_dominated-requires-clause-levels c = levels_in _ c.requires.line.some _ _ _ _ _ c.requires.settled.1

pub is_dominated-requires-clause-at : goal.is_dominated-requires-clause-at
is_dominated-requires-clause-at c = within_in _ c.requires.line.some _ _ _ _ _ c.requires.settled.1

pub returns-then-is_dominated-clause-takes : goal.returns-then-is_dominated-clause-takes
returns-then-is_dominated-clause-takes c = λ cells budget settled small. (
  _,
  goes_passed _ c.requires.line.some _ _ cells _ _ settled _ c.is_whole.ensures.no c.if-is_whole.false _ c.requires.columns _ c.is_dominated.ensures.passed c.is_dominated.ensures.never c.if-is_dominated.true budget small,
  comes_off _ _ _ c.pop-then-is_dominated.ensures.pops c.pop-then-is_dominated.ensures.none,
)

pub expand-requires-clause-search : goal.expand-requires-clause-search
expand-requires-clause-search c = c.requires.settled.1.search

pub expand-requires-clause-inner : goal.expand-requires-clause-inner
expand-requires-clause-inner c = inner_in _ c.requires.line.some _ _ _ _ _ c.requires.settled.1 _ c.is_whole.ensures.no c.if-is_whole.false

pub returns-clause-takes : goal.returns-clause-takes
returns-clause-takes c = λ cells budget settled small.
    let e = c.in_ok-first.ensures.search in
    (e.0, goes_inner _ c.requires.line.some _ _ cells _ _ settled _ c.is_whole.ensures.no c.if-is_whole.false _ _ e.1 c.in_ok-first.ensures.settled budget small, e.2)
