use Rattle.std.proofs.Common.{sym, subst}
use Rattle.frame_store.specs.Chains.{Chained, IsLinked, Lists}
use Rattle.frame_store.proofs.Chaining.{lists_linked}
use Rattle.frame_store.proofs.group.Group.make_room.Goals as goal

pub returns-in_ok-self-inside-clause-kept : goal.returns-in_ok-self-inside-clause-kept
returns-in_ok-self-inside-clause-kept c = λ d u h.
    let linked = subst (λ (g : Chained). IsLinked g.links d u) (sym c.self.view_is) (lists_linked _ _ d u h) in
    let lists = (rw c.as_slice.ensures.value at c.in_ok-self-inside.ensures.listed) d u linked in
    subst (λ (g : Chained). Lists g d u) (sym c.drop.view_is) lists
