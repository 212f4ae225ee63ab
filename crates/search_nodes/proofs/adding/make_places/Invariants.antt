use Rattle.std.proofs.Common.{◌≡◌, ℕ, ◌+◌, ◌-◌, Some, length, slice_get}
use Rattle.search_nodes.proofs.adding.make_places.Given as goal

abbrev pub invariant-more : goal.invariant-more
invariant-more l = (i end : ℕ) → slice_get l.initial.ends.items i ≡ Some end → slice_get l.ends.items i ≡ Some end

abbrev pub decreases-more : goal.decreases-more
decreases-more l = l.index + 1 - length l.ends.items
