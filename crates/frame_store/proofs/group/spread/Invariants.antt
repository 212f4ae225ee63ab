use Rattle.std.proofs.Common.{◌≡◌, length}
use Rattle.frame_store.proofs.Chaining.{AreSpread}
use Rattle.frame_store.proofs.group.spread.Given as goal

abbrev pub invariant-loop-link : goal.invariant-loop-link
invariant-loop-link l = record {
  len : length l.ends.items ≡ l.count;
  listed : AreSpread l.links l.ends.items l.spread.items l.count l.link-index;
}
