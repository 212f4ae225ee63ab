use Rattle.std.proofs.Common.{[], ◌∙◌, refl}
use Rattle.search_nodes.proofs.NodeChains.{root_reached}
use Rattle.break_search.proofs.Striding.{no_nodes, none_kept, kept_push}
use Rattle.break_search.proofs.table.Table.begin.Goals as goal

pub invariant_of-self : goal.invariant_of-self
invariant_of-self c = none_kept _ _ _ _ (no_nodes _ _ _ c.self.view_is c.requires.empty)

pub invariant_of-self-in_err-add : goal.invariant_of-self-in_err-add
invariant_of-self-in_err-add c = none_kept _ _ _ _ (c.in_err-add.ensures.refused ∙ no_nodes _ _ _ c.self.view_is c.requires.empty)

pub invariant_of-self-2 : goal.invariant_of-self-2
invariant_of-self-2 c =
    let none = no_nodes _ _ _ c.self.view_is c.requires.empty in
    let last = rw c.open_node.ensures at c.in_ok-add.ensures.last in
    rw (c.in_ok-add.ensures.added, c.open_node.ensures) (kept_push _ c.self.inside.nodes.items _ [] _ [] _ _ refl refl c.in_ok-state.ensures.known (λ old. root_reached _ _ _ _ none refl last) (none_kept _ _ _ _ none))
