use Rattle.frame_store.proofs.Sharing.{no_lists, shared_none}
use Rattle.frame_store.proofs.store.FrameStore.make.Goals as goal

pub invariant_of-result : goal.invariant_of-result
invariant_of-result c = rw c.in_ok-nodes.ensures.items (shared_none _)

pub returns : goal.returns
returns c = rw c.in_ok-nodes.ensures.items no_lists
