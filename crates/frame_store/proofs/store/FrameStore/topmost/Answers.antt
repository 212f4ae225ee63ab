use Rattle.frame_store.proofs.Tops.{top_is}
use Rattle.frame_store.proofs.store.FrameStore.topmost.Goals as goal

pub returns : goal.returns
returns c = top_is _ _ _ c.node.ensures
