use Rattle.std.proofs.Common.{◌≡◌, map, take}
use Rattle.token_arena.specs.Segments.{ids_of, segment_bounds}
use Rattle.item_classes.specs.Viewed.{item_class}
use Rattle.item_classes.proofs.viewed.copied_classes.Given as goal

abbrev pub invariant-loop-segment : goal.invariant-loop-segment
invariant-loop-segment l = l.classes.items ≡ map (item_class l.arena) (ids_of (map segment_bounds (take l.segment-index l.segment-items)))
