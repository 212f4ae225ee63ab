use Rattle.std.proofs.Common.{◌≡◌, map, take}
use Rattle.token_arena.specs.Segments.{segment_bounds, bounds_of, CountFrom}
use Rattle.token_arena.proofs.SegmentLemmas.{places}
use Rattle.token_arena.proofs.view.View.of_stretches.Given as goal

abbrev pub invariant-loop-stretch : goal.invariant-loop-stretch
invariant-loop-stretch l = record {
  same : map segment_bounds l.segments.items ≡ map bounds_of (take l.stretch-index l.stretches);
  counted : CountFrom 0 l.segments.items;
  total : l.before ≡ places (map bounds_of (take l.stretch-index l.stretches));
}
