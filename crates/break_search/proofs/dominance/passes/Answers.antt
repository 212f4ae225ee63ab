use Rattle.std.proofs.lemmas.Bool.{OnTrue_at}
use Rattle.frame_store.proofs.Tests.{on_true_then}
use Rattle.break_search.proofs.Passing.{ahead_level, passes_by, cheaper_is_better}
use Rattle.break_search.proofs.dominance.passes.Goals as goal

pub is_before-requires-clause-level : goal.is_before-requires-clause-level
is_before-requires-clause-level c = ahead_level _ _ _ c.requires.levels c.requires.first c.requires.second (OnTrue_at c.if-not-is_ahead.false c.is_ahead.ensures.differ) (OnTrue_at c.if-not-is_ahead.false c.is_ahead.ensures.ahead)

pub returns : goal.returns
returns c =
    on_true_then _ _ _ (cheaper_is_better c.args.table.now c.args.first c.args.second _ _ c.cost-cost.ensures c.cost-other.ensures)
    (λ better. passes_by _ _ _ c.requires.first (OnTrue_at c.if-not-is_ahead.false c.is_ahead.ensures.differ) (OnTrue_at c.if-not-is_ahead.false c.is_ahead.ensures.settled) (OnTrue_at c.if-not-is_ahead.false c.is_ahead.ensures.ahead) better)
