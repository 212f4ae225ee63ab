use Rattle.std.proofs.Common.{ℕ}
use Rattle.search_nodes.specs.Groups.{IsGrouped}
use Rattle.search_nodes.proofs.NodeChains.{IsWalked, IsListedNode}
use Rattle.search_nodes.proofs.adding.list_chain.Given as goal

abbrev pub invariant-back : goal.invariant-back
invariant-back l = IsWalked (λ (v : ℕ). IsListedNode l.nodes l.groups.items v) l.nodes l.initial.end l.count l.end l.left × ((i d u : ℕ) → IsGrouped l.initial.groups.items i d u → IsGrouped l.groups.items i d u)

abbrev pub decreases-back : goal.decreases-back
decreases-back l = l.left
