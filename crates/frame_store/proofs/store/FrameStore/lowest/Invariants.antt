use Rattle.frame_store.proofs.Tops.{IsAbove}
use Rattle.frame_store.proofs.store.FrameStore.lowest.Given as goal

abbrev pub invariant-down : goal.invariant-down
invariant-down l = IsAbove l.self l.node l.count l.at

abbrev pub decreases-down : goal.decreases-down
decreases-down l = l.at
