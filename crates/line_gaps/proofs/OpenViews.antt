-- Items of a view before which nothing is decided.
use Rattle.std.proofs.Common.{◌≡◌, ◌∙◌, ◌⊎◌, inl, inr, ℕ, ◌+◌, ◌-◌, ◌<◌, ◌≤◌, Option, Some, None, List, length}
use Rattle.std.proofs.Common.{map, replicate, sym, ap, arith, get_or, slice_get, slice_set}
use Rattle.std.proofs.Math.Nat.{eq-or-lt_of_le}
use Rattle.std.proofs.lemmas.List.{get_or_default}
use Rattle.std.proofs.lemmas.Option.{slice_get-get_or}
use Rattle.line_tokens.specs.declared.Fixed.{Fixed}
use Rattle.token_arena.specs.Gaps.{Contents}
use Rattle.token_arena.specs.declared.view.Stretch.{Stretch}
use Rattle.replacements.specs.Breaks.{fixed_by}
use Rattle.replacements.specs.Decisions.{slot_of}
use Rattle.replacements.specs.declared.slot.Slot.{Slot}
use Rattle.line_gaps.specs.Fixed.{fixed_of_id, fixed_up_to}
use Rattle.line_gaps.specs.Stretches.{AreFrom}
use Rattle.line_gaps.proofs.FixedGaps.{all_told, none_told, told_more, told_open}

-- one more item before which nothing is decided
pub open_on : (plan : List (Option Slot)) (first at : ℕ) → ((id : ℕ) → first ≤ id → id < at → slot_of plan id ≡ None) → slot_of plan at ≡ None → (id : ℕ) → first ≤ id → id < at + 1 → slot_of plan id ≡ None
open_on plan first at before open_gap id more within = by_place (eq-or-lt_of_le {n = id} {m = at} (omega (arith, within)))
  where
    by_place : (id ≡ at) ⊎ (id < at) → slot_of plan id ≡ None
    by_place (inl same) = ap (slot_of plan) same ∙ open_gap
    by_place (inr less) = before id more less

before_or_in : (j k : ℕ) → (j < k) ⊎ (k ≤ j)
before_or_in j k = grind arith

-- and those of a stretch
pub open_further : (plan : List (Option Slot)) (ids : List ℕ) (k : ℕ) (stretch : Stretch) → AreFrom ids k stretch → ((j : ℕ) → j < k → slot_of plan (get_or ids j 0) ≡ None)
    → ((id : ℕ) → stretch.first ≤ id → id < stretch.end → slot_of plan id ≡ None) → (j : ℕ) → j < k + (stretch.end - stretch.first) → slot_of plan (get_or ids j 0) ≡ None
open_further plan ids k stretch are before there j high = elim (before_or_in j k) [
  | inl less ↦ before j less
  | inr more ↦
      let place : k + (j - k) ≡ j = omega (arith, more) in
      let at : get_or ids j 0 ≡ stretch.first + (j - k) = ap (λ i. get_or ids i 0) (sym place) ∙ are (j - k) (omega (arith, high, more)) in
      ap (slot_of plan) at ∙ there (stretch.first + (j - k)) (omega arith) (omega (arith, high, more))
]

-- what is told of a view whose gaps are open is nothing
pub view_open : (arena : Contents) (plan : List (Option Slot)) (ids : List ℕ) → ((k : ℕ) → k < length ids → slot_of plan (get_or ids k 0) ≡ None)
    → replicate (length ids) None ≡ map (fixed_of_id arena plan) ids
view_open arena plan ids open_gaps =
    let f : ℕ → Option Fixed = fixed_of_id arena plan in
    none_told f ids
    ∙ (told_open f ids 0 (length ids) (omega arith) (λ i d low high. ap f (get_or_default ids i d 0 high) ∙ ap (fixed_by arena (get_or ids i 0)) (open_gaps i high))
    ∙ all_told f ids (length ids) (omega arith))

-- the item of a stretch that stands at a place
at_place : (ids : List ℕ) (place k : ℕ) (stretch : Stretch) → AreFrom ids place stretch → k < stretch.end - stretch.first → place + (stretch.end - stretch.first) ≤ length ids
    → slice_get ids (place + k) ≡ Some (stretch.first + k)
at_place ids place k stretch are below within =
    slice_get-get_or ids (place + k) 0 (omega (arith, below, within)) ∙ ap (λ (id : ℕ). Some id) (are k below)

-- one gap of a stretch more, where it is decided
pub told_decided : (f : ℕ → Option Fixed) (ids : List ℕ) (place k : ℕ) (stretch : Stretch) (told : Option Fixed) (fixed : List (Option Fixed)) → AreFrom ids place stretch → k < stretch.end - stretch.first → place + (stretch.end - stretch.first) ≤ length ids
    → told ≡ f (stretch.first + k) → fixed ≡ fixed_up_to f ids (place + k) → slice_set fixed (place + k) told ≡ fixed_up_to f ids (place + (k + 1))
told_decided f ids place k stretch told fixed are below within tells before =
    let next : place + k + 1 ≡ place + (k + 1) = omega arith in
    ap (λ (xs : List (Option Fixed)). slice_set xs (place + k) told) before
    ∙ (told_more f ids (place + k) (stretch.first + k) told (at_place ids place k stretch are below within) tells ∙ ap (fixed_up_to f ids) next)

-- and where it is open
pub told_still : (arena : Contents) (plan : List (Option Slot)) (ids : List ℕ) (place k : ℕ) (stretch : Stretch) (fixed : List (Option Fixed)) → AreFrom ids place stretch → k < stretch.end - stretch.first → place + (stretch.end - stretch.first) ≤ length ids
    → slot_of plan (stretch.first + k) ≡ None → fixed ≡ fixed_up_to (fixed_of_id arena plan) ids (place + k) → fixed ≡ fixed_up_to (fixed_of_id arena plan) ids (place + (k + 1))
told_still arena plan ids place k stretch fixed are below within open_gap before =
    let f : ℕ → Option Fixed = fixed_of_id arena plan in
    before ∙ told_open f ids (place + k) (place + (k + 1)) (omega arith) (λ i d low high.
    let here : i ≡ place + k = omega (arith, low, high) in
    let item : get_or ids i d ≡ stretch.first + k = get_or_default ids i d 0 (omega (arith, here, below, within)) ∙ (ap (λ n. get_or ids n 0) here ∙ are k below) in
    ap f item ∙ ap (fixed_by arena (stretch.first + k)) open_gap)
