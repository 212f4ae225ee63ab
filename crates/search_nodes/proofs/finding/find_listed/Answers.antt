use Rattle.std.proofs.Common.{refl}
use Rattle.std.proofs.lemmas.Option.{slice_get_past, slice_get_read}
use Rattle.search_nodes.proofs.ListedNodes.{lacks_in_group, lacks_no_group}
use Rattle.search_nodes.proofs.finding.find_listed.Goals as goal

pub returns-in_default-clause-none : goal.returns-in_default-clause-none
returns-in_default-clause-none c = lacks_no_group _ _ _ _ refl (slice_get_past _ _ c.in_default.ensures.lookup.3)

pub returns-clause-none : goal.returns-clause-none
returns-clause-none c = lacks_in_group _ _ _ _ _ _ c.in-Some.group.now refl c.place_digest-digest.ensures (slice_get_read _ _ _ c.in-Some.group.now refl c.in-Some.ensures.lookup.3.0 c.in-Some.ensures.lookup.1) c.end.ensures _ (rw c.links.ensures at c.find_on_chain.ensures.none)
