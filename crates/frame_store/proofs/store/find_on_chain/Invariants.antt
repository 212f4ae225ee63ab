use Rattle.frame_store.proofs.Sharing.{IsWalkedTo}
use Rattle.frame_store.proofs.store.find_on_chain.Given as goal

abbrev pub invariant-back : goal.invariant-back
invariant-back l = IsWalkedTo l.nodes l.links l.digest l.frame l.below l.initial.end l.end

abbrev pub decreases-back : goal.decreases-back
decreases-back l = l.end
