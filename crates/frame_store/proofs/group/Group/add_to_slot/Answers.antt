use Rattle.std.proofs.Common.{◌<◌, length, sym, subst}
use Rattle.frame_store.specs.Chains.{Chained, Lists}
use Rattle.frame_store.proofs.Chaining.{slots_kept}
use Rattle.frame_store.proofs.group.Group.add_to_slot.Goals as goal

pub returns-clause-kept : goal.returns-clause-kept
returns-clause-kept c = λ d u h.
    let old : Lists (record { ends = c.self.inside.ends.items; links = c.self.inside.links.items }) d u = subst (λ (g : Chained). Lists g d u) (sym c.self.view_is) (c.in_ok-make_room.ensures.kept d u h) in
    let some : 0 < length c.self.inside.ends.items = subst (λ (g : Chained). 0 < length g.ends) (sym c.self.view_is) c.in_ok-make_room.ensures.some in
    slots_kept c.self.inside.ends.items c.list.new.ends.items c.self.inside.links.items c.list.new.links.items some c.list.ensures.len c.list.ensures.kept d u old
