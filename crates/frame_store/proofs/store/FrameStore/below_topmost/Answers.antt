use Rattle.std.proofs.Common.{◌∙◌, sym, arith}
use Rattle.frame_store.proofs.Sharing.{is_on_less}
use Rattle.frame_store.proofs.Tops.{below_base, below_top}
use Rattle.frame_store.proofs.store.FrameStore.below_topmost.Goals as goal

pub topmost-requires : goal.topmost-requires
topmost-requires c = omega (arith, is_on_less _ _ _ _ c.node-here.ensures c.in-Some.is)

pub returns-in-None : goal.returns-in-None
returns-in-None c = below_base _ _ _ c.node-here.ensures c.in-None.is

pub returns-in-Some : goal.returns-in-Some
returns-in-Some c = c.topmost.ensures ∙ sym (below_top _ _ _ c.node-here.ensures _ c.in-Some.is)
