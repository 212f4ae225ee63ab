-- The gaps before a bound are decided.
use Rattle.std.proofs.Common.{ℕ, ◌<◌, ◌≤◌, Option, None, List, length, get_or, arith}
use Rattle.std.specs.Prelude.{All, IsSome}
use Rattle.std.specs.List.{Contains}
use Rattle.std.proofs.lemmas.List.{get_or_default}
use Rattle.token_arena.specs.Gaps.{Contents}
use Rattle.token_arena.specs.Ids.{Increase}
use Rattle.branch_runs.specs.Anew.{items_between}
use Rattle.part_walk.specs.Places.{Place}
use Rattle.view_parts.specs.Parts.{items_before}
use Rattle.replacements.specs.declared.slot.Slot.{Slot}
use Rattle.replacements.specs.Decisions.{slot_of}
use Rattle.run_parts.specs.Bounds.{BeginTold}
use Rattle.run_parts.proofs.Between.{between_has}
use Rattle.run_parts.proofs.FirstParts.{parts_of_told, stop_at}
use Rattle.run_parts.proofs.PlacesStand.{IsPlaced, placed_behind, placed_decided, placed_outside}
use Rattle.run_parts.proofs.PartsDecided.{AreDecidedUpTo}
use Rattle.run_parts.proofs.Stretches.{front_short, front_item}

-- the gap before each item of these from this one on, or before it, that is among them is decided
abbrev pub AreDecidedFrom : List (Option Slot) → List ℕ → ℕ → Type 0
AreDecidedFrom plan ids first = (id : ℕ) → first ≤ id → Contains ids id → IsSome (slot_of plan id)

abbrev pub AreDecidedBefore : List (Option Slot) → List ℕ → ℕ → Type 0
AreDecidedBefore plan ids end = (id : ℕ) → id < end → Contains ids id → IsSome (slot_of plan id)

pub front_decided : (plan : List (Option Slot)) (ids : List ℕ) (end : ℕ) → Increase ids → AreDecidedBefore plan ids end → AreDecidedUpTo plan ids 0 (length (items_between 0 end ids))
front_decided plan ids end increase all = λ k low high.
    let short = front_short end ids increase in
    let below : k < length ids = omega (arith, high, short) in
    let is = front_item end ids k increase high in
    let has = (between_has 0 end ids k high).1 in
    all (get_or ids k 0) (omega (arith, is, has)) (k, below, get_or_default ids k (get_or ids k 0) 0 below)

-- what stands for the place of a bound stands before it
pub bound_placed : (arena : Contents) (ids : List ℕ) (item told : ℕ) (inside : Option Place) → Increase ids → BeginTold arena (items_between 0 told ids) (length (items_between 0 item ids)) inside
    → IsPlaced ids 0 inside (length (items_between 0 item ids))
bound_placed arena ids item told inside increase begin =
    let place = length (items_between 0 item ids) in
    let parts = parts_of_told arena ids told place inside increase begin in
    placed_behind arena ids 0 None 0 (stop_at place inside) parts.stops increase parts.follow (placed_outside ids 0)

-- so it is decided
pub bound_decided : (arena : Contents) (plan : List (Option Slot)) (ids : List ℕ) (item told : ℕ) (inside : Option Place) → Increase ids → BeginTold arena (items_between 0 told ids) (length (items_between 0 item ids)) inside
    → AreDecidedBefore plan ids item → All (λ id. IsSome (slot_of plan id)) (items_before inside)
bound_decided arena plan ids item told inside increase begin all =
    placed_decided plan ids 0 inside (length (items_between 0 item ids)) increase (bound_placed arena ids item told inside increase begin) (front_decided plan ids item increase all)
