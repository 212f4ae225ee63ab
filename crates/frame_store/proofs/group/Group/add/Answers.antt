use Rattle.std.proofs.Common.{◌<◌, length, sym, subst, arith}
use Rattle.frame_store.specs.Chains.{Chained, Lists}
use Rattle.frame_store.proofs.Chaining.{slots_kept}
use Rattle.frame_store.proofs.group.Group.add.Goals as goal

pub returns-clause-kept : goal.returns-clause-kept
returns-clause-kept c = λ d u h.
    let old : Lists (record { ends = c.self.inside.ends.items; links = c.self.inside.links.items }) d u = subst (λ (g : Chained). Lists g d u) (sym c.self.view_is) h in
    let some : 0 < length c.self.inside.ends.items = omega (arith, c.if-many-count.false, c.len-count.ensures) in
    slots_kept c.self.inside.ends.items c.list_in_room.new.ends.items c.self.inside.links.items c.list_in_room.new.links.items some c.list_in_room.ensures.len c.list_in_room.ensures.kept d u old
