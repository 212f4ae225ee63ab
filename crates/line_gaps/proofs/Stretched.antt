-- Items of a view that follow one another in the text.
use Rattle.std.proofs.Common.{◌≡◌, ◌∙◌, ◌⊎◌, inl, inr, ℕ, ◌+◌, ◌-◌, ◌<◌, ◌≤◌, Option, List, length, map, get_or, ap}
use Rattle.std.proofs.Common.{subst, sym, arith}
use Rattle.std.specs.Prelude.{IsSome}
use Rattle.token_arena.specs.declared.view.Segment.{Segment}
use Rattle.token_arena.specs.declared.view.Stretch.{Stretch}
use Rattle.token_arena.specs.Segments.{ids_of, segment_bounds, AreSegments, no_segment, HasPlace}
use Rattle.token_arena.proofs.SegmentLemmas.{item_at_start}
use Rattle.token_arena.specs.Gaps.{Contents}
use Rattle.item_classes.specs.Viewed.{AreWithin}
use Rattle.replacements.specs.declared.slot.Slot.{Slot}
use Rattle.replacements.specs.Decisions.{slot_of}
use Rattle.line_tokens.specs.declared.line.ULine.{ULine}
use Rattle.line_gaps.specs.OpenGaps.{IsOpen, IsRowDecided, IsRowOpen}
use Rattle.line_gaps.specs.Stretches.{AreFrom, IsRest}

-- in a segment items follow one another
in_segment : (segments : List Segment) (number k j : ℕ) (rest : Stretch) → AreSegments segments → IsRest segments number k rest → j < rest.end - rest.first
    → get_or (ids_of (map segment_bounds segments)) (k + j) 0 ≡ rest.first + j
in_segment segments number k j rest rule is below =
    let low : (get_or segments number no_segment).before ≤ k = is.has.low in
    let there : HasPlace segments (k + j) number = record { low = omega (arith, low); high = omega (arith, is.first, is.end, low, below) } in
    let at = item_at_start segments number (k + j) 0 rule is.within there in
    omega (arith, at, is.first, low)

-- so do those from a place on
pub rest_follow : (segments : List Segment) (ids : List ℕ) (number k j : ℕ) (rest : Stretch) → ids_of (map segment_bounds segments) ≡ ids → AreSegments segments → IsRest segments number k rest
    → j < rest.end - rest.first → get_or ids (k + j) 0 ≡ rest.first + j
rest_follow segments ids number k j rest is rule from below =
    subst (λ (x : List ℕ). get_or x (k + j) 0 ≡ rest.first + j) is (in_segment segments number k j rest rule from below)

-- there is at least one
pub rest_some : (segments : List Segment) (number k : ℕ) (rest : Stretch) → IsRest segments number k rest → rest.first < rest.end
rest_some segments number k rest is = omega (arith, is.first, is.end, is.has.low, is.has.high)

-- and they are items of the text
pub left_within : (arena : Contents) (ids : List ℕ) (k first count : ℕ) → AreWithin arena ids → 0 < count → k + count ≤ length ids
    → ((j : ℕ) → j < count → get_or ids (k + j) 0 ≡ first + j) → first + count ≤ length arena.tokens
left_within arena ids k first count items some within follow =
    let last = follow (count - 1) (omega (arith, some)) in
    let here : get_or ids (k + (count - 1)) 0 < length arena.tokens = items (k + (count - 1)) 0 (omega (arith, some, within)) in
    omega (arith, last, here, some)

before_or_in : (j k : ℕ) → (j < k) ⊎ (k ≤ j)
before_or_in j k = grind arith

-- gaps that are decided from a place up to a stretch, and those of the stretch
pub decided_further : (plan : List (Option Slot)) (ids : List ℕ) (from k : ℕ) (stretch : Stretch) → AreFrom ids k stretch
    → ((j : ℕ) → from ≤ j → j < k → IsSome (slot_of plan (get_or ids j 0))) → IsRowDecided plan stretch.first stretch.end
    → (j : ℕ) → from ≤ j → j < k + (stretch.end - stretch.first) → IsSome (slot_of plan (get_or ids j 0))
decided_further plan ids from k stretch are before there j low high = elim (before_or_in j k) [
  | inl less ↦ before j low less
  | inr more ↦
      let place : k + (j - k) ≡ j = omega (arith, more) in
      let at : stretch.first + (j - k) ≡ get_or ids j 0 = sym (are (j - k) (omega (arith, high, more))) ∙ ap (λ i. get_or ids i 0) place in
      subst (λ id. IsSome (slot_of plan id)) at (there (stretch.first + (j - k)) (omega arith) (omega (arith, high, more)))
]

-- a gap that is open in a stretch is one of the line
pub open_in_line : (plan : List (Option Slot)) (ids : List ℕ) (line : ULine) (k : ℕ) (stretch : Stretch) → AreFrom ids k stretch → line.first ≤ k → k + (stretch.end - stretch.first) ≤ line.last + 1
    → IsRowOpen plan stretch.first stretch.end → IsOpen plan ids line
open_in_line plan ids line k stretch are from within row =
    let j : ℕ = row.id - stretch.first in
    let below : j < stretch.end - stretch.first = omega (arith, row.from, row.within) in
    let at : stretch.first + j ≡ row.id = omega (arith, row.from) in
    record {
      place = k + j;
      from = omega (arith, from);
      within = omega (arith, below, within);
      open_gap = ap (λ x. slot_of plan x) (are j below ∙ at) ∙ row.open_gap;
    }
