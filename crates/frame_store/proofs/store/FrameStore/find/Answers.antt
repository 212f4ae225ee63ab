use Rattle.std.proofs.Common.{arith}
use Rattle.frame_store.proofs.Sharing.{found_known, found_list, few_lists, nowhere}
use Rattle.frame_store.proofs.store.FrameStore.find.Goals as goal

pub overflow_cast-result : goal.overflow_cast-result
overflow_cast-result c = omega (arith, few_lists _ _ _ c.self.view_is c.self.invariant _ (found_known _ _ c.self.view_is _ _ _ (rw c.as_slice.ensures.value at c.in-Some.ensures.found)))

pub returns-in-Some-clause-known : goal.returns-in-Some-clause-known
returns-in-Some-clause-known c = found_known _ _ c.self.view_is _ _ _ (rw c.as_slice.ensures.value at c.in-Some.ensures.found)

pub returns-in-Some-clause-list : goal.returns-in-Some-clause-list
returns-in-Some-clause-list c = found_list _ _ _ c.self.view_is c.self.invariant _ _ _ (rw c.as_slice.ensures.value at c.in-Some.ensures.found)

pub returns-in-None-clause-none : goal.returns-in-None-clause-none
returns-in-None-clause-none c = nowhere _ _ _ c.self.view_is c.self.invariant _ _ c.requires _ _ c.digest_of_node-digest.ensures c.end-end.ensures (rw (c.as_slice.ensures.value, c.links-links.ensures) at c.in-None.ensures.none)
