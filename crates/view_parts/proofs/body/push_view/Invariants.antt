use Rattle.std.proofs.Common.{◌≡◌, ◌<◌, ◌≤◌, ◌++◌, ◌∷◌, [], length, get_or, map, take}
use Rattle.token_arena.specs.Segments.{ids_of, AscendFrom, bounds_of, no_segment, segment_bounds}
use Rattle.view_parts.proofs.body.push_view.Given as goal

abbrev pub invariant-loop-segment : goal.invariant-loop-segment
invariant-loop-segment l = record {
  ascend : AscendFrom 0 (map bounds_of (l.done.items ++ l.last ∷ []));
  items : ids_of (map bounds_of (l.done.items ++ l.last ∷ [])) ≡ ids_of (map bounds_of (l.fn.done.items ++ l.fn.last ∷ [])) ++ ids_of (map segment_bounds (take l.segment-index l.segment-items));
  behind : l.segment-index < length l.segment-items → l.last.end ≤ (get_or l.segment-items l.segment-index no_segment).first;
}
