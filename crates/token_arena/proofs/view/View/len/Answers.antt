use Rattle.std.proofs.Common.{arith, rules, get_or, length, ◌≡◌, ◌<◌, ◌-◌, ◌+◌, List, map}
use Rattle.token_arena.specs.declared.view.Segment.{Segment}
use Rattle.token_arena.specs.Segments.{AreSegments, no_segment, ids_of, segment_bounds}
use Rattle.token_arena.proofs.SegmentLemmas.{well, IsWell, last_end}
use Rattle.token_arena.proofs.IncreaseLemmas.{ids_increase}
use Rattle.token_arena.proofs.view.View.len.Goals as goal

last_well : (segments : List Segment) → AreSegments segments → 0 < length segments → IsWell (get_or segments (length segments - 1) no_segment)
last_well segments rule some = well segments 0 0 (length segments - 1) (omega arith) rule.order rule.counts (omega arith)

last_place : (segments : List Segment) → AreSegments segments → 0 < length segments
    → (get_or segments (length segments - 1) no_segment).before + ((get_or segments (length segments - 1) no_segment).end - (get_or segments (length segments - 1) no_segment).first) ≡ length (ids_of (map segment_bounds segments))
last_place segments rule some = let h = last_end segments 0 (length segments - 1) rule.counts (omega arith) in omega (arith, h)

pub overflow_sub-result : goal.overflow_sub-result
overflow_sub-result c = omega (arith, (last_well c.self.inside.segments.now c.self.invariant (grind (arith, c.if-count-eq0.false))).some)

pub overflow_add-result : goal.overflow_add-result
overflow_add-result c =
    let w = last_well c.self.inside.segments.now c.self.invariant (grind (arith, c.if-count-eq0.false)) in
    search (rules, arith, w.some, w.room)

pub returns-clause-count : goal.returns-clause-count
returns-clause-count c = rw (← c.self.view_is) (last_place c.self.inside.segments.now c.self.invariant (grind (arith, c.if-count-eq0.false)))

pub returns-clause-increase : goal.returns-clause-increase
returns-clause-increase c = rw (← c.self.view_is) (ids_increase 0 (map segment_bounds c.self.inside.segments.now) c.self.invariant.order)
