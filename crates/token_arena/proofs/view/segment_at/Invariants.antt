use Rattle.std.proofs.Common.{◌≡◌, ◌<◌, ◌≤◌, ◌-◌, ◌⊎◌, length, get_or}
use Rattle.token_arena.specs.Segments.{no_segment}
use Rattle.token_arena.proofs.view.segment_at.Given as goal

abbrev pub invariant-loop-high : goal.invariant-loop-high
invariant-loop-high l = record {
  within : l.high ≤ length l.segments;
  some : l.low < l.high;
  low : (get_or l.segments l.low no_segment).before ≤ l.place;
  high : (l.high ≡ length l.segments) ⊎ (l.place < (get_or l.segments l.high no_segment).before);
}

abbrev pub decreases-loop-high : goal.decreases-loop-high
decreases-loop-high l = l.high - l.low
