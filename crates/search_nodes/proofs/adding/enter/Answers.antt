use Rattle.std.proofs.Common.{refl}
use Rattle.search_nodes.proofs.Grouping.{group_kept, group_added}
use Rattle.search_nodes.proofs.adding.enter.Goals as goal

pub returns-in_err-add-clause-kept : goal.returns-in_err-add-clause-kept
returns-in_err-add-clause-kept c = λ i d u h.
    group_kept _ _ _ c.index_mut-group.result.now _ c.in_ok-fill_up.ensures.there c.index_mut-group.ensures.value refl c.in_err-add.ensures.kept i d u (c.fill_up.ensures.kept i d u h)

pub returns-clause-kept : goal.returns-clause-kept
returns-clause-kept c = λ i d u h.
    group_kept _ _ _ c.index_mut-group.result.now _ c.in_ok-fill_up.ensures.there c.index_mut-group.ensures.value refl c.in_ok-add.ensures.kept i d u (c.fill_up.ensures.kept i d u h)

pub returns-clause-added : goal.returns-clause-added
returns-clause-added c =
    group_added _ _ _ c.index_mut-group.result.now _ c.in_ok-fill_up.ensures.there c.index_mut-group.ensures.value refl _ _ (rw c.place_digest.ensures at c.in_ok-add.ensures.added)
