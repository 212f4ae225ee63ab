use Rattle.frame_store.proofs.Sharing.{within_store, told_at}
use Rattle.frame_store.proofs.store.FrameStore.node.Goals as goal

pub node_at-requires : goal.node_at-requires
node_at-requires c = rw c.as_slice.ensures.value (within_store _ _ c.self.view_is _ c.requires)

pub returns : goal.returns
returns c = told_at _ _ _ c.self.view_is c.self.invariant _ _ (rw c.as_slice.ensures.value at c.node_at.ensures)
