use Rattle.std.proofs.Common.{ℕ, ◌+◌, ◌-◌, length}
use Rattle.search_nodes.specs.Groups.{IsGrouped}
use Rattle.search_nodes.proofs.adding.fill_up.Given as goal

abbrev pub invariant-more : goal.invariant-more
invariant-more l = (i d u : ℕ) → IsGrouped l.initial.groups.items i d u → IsGrouped l.groups.items i d u

abbrev pub decreases-more : goal.decreases-more
decreases-more l = l.place + 1 - length l.groups.items
