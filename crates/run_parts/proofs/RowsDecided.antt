-- Parts of a view that stand in a row, and parts of which all gaps are decided.
use Rattle.std.proofs.Common.{◌≡◌, ◌∙◌, ◌⊎◌, inl, inr, ℕ, suc, ◌+◌, ◌-◌, ◌<◌, ◌≤◌, Option, Some, None, List, [], ◌∷◌}
use Rattle.std.proofs.Common.{length, append-nil, get_or, take, drop, map, sym, ap, subst, arith}
use Rattle.std.specs.Prelude.{IsSome, slice_range}
use Rattle.std.specs.List.{range_with_len}
use Rattle.std.proofs.lemmas.List.FromFn.{length-range_with_len, get_or-range_with_len}
use Rattle.token_arena.specs.declared.view.Segment.{Segment}
use Rattle.token_arena.specs.Ids.{Increase}
use Rattle.token_arena.specs.Segments.{AreSegments, ids_of, segment_bounds}
use Rattle.replacements.specs.declared.slot.Slot.{Slot}
use Rattle.replacements.specs.Decisions.{slot_of}
use Rattle.line_gaps.specs.OpenGaps.{IsRowDecided, IsRowOpen}
use Rattle.view_parts.proofs.Rows.{row_from}
use Rattle.run_parts.specs.Runs.{AreDecided}
use Rattle.run_parts.proofs.Parts.{part_item, part_length}

-- ## A row

-- the items of a part that stands in a row
pub row_items : (view : List ℕ) (first end id last : ℕ) → Increase view → first < end → end ≤ length view → get_or view first 0 ≡ id → get_or view (end - 1) 0 ≡ last → id ≤ last → last - id ≡ end - 1 - first
    → slice_range view first end ≡ range_with_len id ((last + 1) - id)
row_items view first end id last increase some inside at at_last low is =
    let behind = end - 1 - first in
    let e : first + behind ≡ end - 1 = omega (arith, some) in
    let n : suc behind ≡ end - first = omega (arith, some) in
    let m : suc behind ≡ (last + 1) - id = omega (arith, low, is) in
    let far : get_or view (first + behind) 0 ≡ id + behind = ap (λ k. get_or view k 0) e ∙ (at_last ∙ omega (arith, low, is)) in
    let same : take (end - first) (drop first view) ≡ range_with_len id (suc behind) = subst (λ k. take k (drop first view) ≡ range_with_len id (suc behind)) n (row_from view first id behind increase (omega (arith, some, inside)) at far) in
    same ∙ ap (λ k. range_with_len id k) m

-- ## Decided gaps of a part

-- so far the gaps of a view are decided
abbrev pub IsDecidedUpTo : List (Option Slot) → List ℕ → ℕ → ℕ → Type 0
IsDecidedUpTo plan view first place = (j : ℕ) → first ≤ j → j < place → IsSome (slot_of plan (get_or view j 0))

before_or : (j place : ℕ) → (j < place) ⊎ (place ≤ j)
before_or j place = grind arith

-- and so are those of a row behind them
pub row_further : (plan : List (Option Slot)) (view : List ℕ) (first place id behind : ℕ) → ((k : ℕ) → k ≤ behind → get_or view (place + k) 0 ≡ id + k) → IsRowDecided plan id (id + behind + 1)
    → IsDecidedUpTo plan view first place → IsDecidedUpTo plan view first (place + (behind + 1))
row_further plan view first place id behind follow row before j low high = elim (before_or j place) [
  | inl early ↦ before j low early
  | inr late ↦
      let e : place + (j - place) ≡ j = omega (arith, late) in
      let at : id + (j - place) ≡ get_or view j 0 = sym (follow (j - place) (omega (arith, late, high))) ∙ ap (λ k. get_or view k 0) e in
      subst (λ k. IsSome (slot_of plan k)) at (row (id + (j - place)) (omega arith) (omega (arith, late, high)))
]

pub part_up_to : (plan : List (Option Slot)) (view : List ℕ) (first end place : ℕ) → end ≤ place → IsDecidedUpTo plan view first place → AreDecided plan (slice_range view first end)
part_up_to plan view first end place past all = λ k below.
    let few : k < end - first = omega (arith, below, part_length view first end) in
    subst (λ id. IsSome (slot_of plan id)) (sym (part_item view first end k 0 below)) (all (first + k) (omega arith) (omega (arith, few, past)))

-- a gap of a part that stands in such a row is open
pub part_open : (plan : List (Option Slot)) (view : List ℕ) (first end place id behind : ℕ) → first ≤ place → place + behind < end → end ≤ length view → ((k : ℕ) → k ≤ behind → get_or view (place + k) 0 ≡ id + k) → IsRowOpen plan id (id + behind + 1)
    → AreDecided plan (slice_range view first end) → ⊥
part_open plan view first end place id behind low high inside follow gap all =
    let k = gap.id - id in
    let at : id + k ≡ gap.id = omega (arith, gap.from) in
    let below : place + k - first < length (slice_range view first end) = omega (arith, part_length view first end, gap.from, gap.within, low, high, inside) in
    let item : get_or (slice_range view first end) (place + k - first) 0 ≡ gap.id =
    part_item view first end (place + k - first) 0 below ∙ (ap (λ j. get_or view j 0) (omega (arith, low)) ∙ (follow k (omega (arith, gap.from, gap.within)) ∙ at)) in
    none_decided (slot_of plan gap.id) gap.open_gap (subst (λ n. IsSome (slot_of plan n)) item (all (place + k - first) below))
  where
    none_decided : (slot : Option Slot) → slot ≡ None → IsSome slot → ⊥
    none_decided None is some = cc
    none_decided (Some s) is some = cc

-- ## A part that stands in a row

pub row_decided : (plan : List (Option Slot)) (first end : ℕ) (ids : List ℕ) → ids ≡ range_with_len first (end - first) → IsRowDecided plan first end → AreDecided plan ids
row_decided plan first end ids is row = λ place below.
    let short : place < end - first = omega (arith, below, ap (λ (xs : List ℕ). length xs) is, length-range_with_len first (end - first)) in
    let item : first + place ≡ get_or ids place 0 = sym (ap (λ (xs : List ℕ). get_or xs place 0) is ∙ get_or-range_with_len first (end - first) place 0 short) in
    subst (λ k. IsSome (slot_of plan k)) item (row (first + place) (omega arith) (omega (arith, short)))

-- the view of one segment that has its items
pub own_segment : (row : Segment) → row.first < row.end → row.before ≡ 0 → AreSegments (row ∷ [])
own_segment row some before = record {
  order = (omega arith, some, tt);
  counts = (before, tt);
}

pub own_items : (row : Segment) (ids : List ℕ) → ids ≡ range_with_len row.first (row.end - row.first) → ids_of (map segment_bounds (row ∷ [])) ≡ ids
own_items row ids is = append-nil (range_with_len row.first (row.end - row.first)) ∙ sym is
