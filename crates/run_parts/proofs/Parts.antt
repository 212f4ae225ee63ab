-- The items of a part of a view.
use Rattle.std.proofs.Common.{◌≡◌, ◌∙◌, ◌⊎◌, ℕ, ◌+◌, ◌-◌, ◌<◌, ◌≤◌, Option, List, length, get_or, drop, min, sym, ap}
use Rattle.std.proofs.Common.{subst, arith}
use Rattle.std.specs.Prelude.{All, IsSome, slice_range}
use Rattle.std.proofs.lemmas.List.{get_or-append-add, get_or-drop, get_or-take, get_or_default, length-append}
use Rattle.std.proofs.lemmas.List.{length-drop, length-take}
use Rattle.std.proofs.lemmas.List.Elements.{All-append}
use Rattle.part_walk.specs.Places.{Place}
use Rattle.view_parts.specs.Parts.{items_before, laid_items}
use Rattle.replacements.specs.declared.slot.Slot.{Slot}
use Rattle.replacements.specs.Decisions.{slot_of}
use Rattle.run_parts.specs.Runs.{AreDecided}

pub part_length : (ids : List ℕ) (first end : ℕ) → length (slice_range ids first end) ≡ min (end - first) (length ids - first)
part_length ids first end = length-take (end - first) (drop first ids) ∙ ap (λ n. min (end - first) n) (length-drop first ids)

-- the item at a place of a part stands in the view
pub part_item : (ids : List ℕ) (first end k d : ℕ) → k < length (slice_range ids first end) → get_or (slice_range ids first end) k d ≡ get_or ids (first + k) d
part_item ids first end k d below =
    let few : k < end - first = omega (arith, below, part_length ids first end) in
    get_or-take (end - first) (drop first ids) k d few ∙ get_or-drop first ids k d

pub part_within : (ids : List ℕ) (P : ℕ → Type 0) (first end : ℕ) → All P ids → All P (slice_range ids first end)
part_within ids P first end all = λ k d below.
    let far : first + k < length ids = omega (arith, below, part_length ids first end) in
    subst P (sym (part_item ids first end k d below)) (all (first + k) d far)

-- ## What stands for the place where a part begins

-- what those items and all of a view have, the items have that are laid out for a part
pub laid_have : (P : ℕ → Type 0) (ids : List ℕ) (begins : Option Place) (first end : ℕ) → All P (items_before begins) → All P ids → All P (laid_items begins ids first end)
laid_have P ids begins first end before all = All-append P (items_before begins) (slice_range ids first end) before (part_within ids P first end all)

-- how many more are laid out
pub laid_length : (ids : List ℕ) (begins : Option Place) (first end : ℕ) → length (laid_items begins ids first end) ≡ length (items_before begins) + min (end - first) (length ids - first)
laid_length ids begins first end = length-append (items_before begins) (slice_range ids first end) ∙ ap (λ n. length (items_before begins) + n) (part_length ids first end)

-- the items of the part stand behind them
pub laid_item : (ids : List ℕ) (begins : Option Place) (first end k d : ℕ) → k < length (slice_range ids first end) → get_or (laid_items begins ids first end) (length (items_before begins) + k) d ≡ get_or ids (first + k) d
laid_item ids begins first end k d below = get_or-append-add (items_before begins) (slice_range ids first end) k d ∙ part_item ids first end k d below

-- ## Decided gaps

pub decided_all_of : (plan : List (Option Slot)) (ids : List ℕ) → AreDecided plan ids → All (λ id. IsSome (slot_of plan id)) ids
decided_all_of plan ids all = λ k d below. subst (λ id. IsSome (slot_of plan id)) (get_or_default ids k 0 d below) (all k below)

pub all_decided_of : (plan : List (Option Slot)) (ids : List ℕ) → All (λ id. IsSome (slot_of plan id)) ids → AreDecided plan ids
all_decided_of plan ids all = λ k below. all k 0 below

-- behind the gaps before decided items, those of a part of decided items are
pub laid_decided : (plan : List (Option Slot)) (ids : List ℕ) (begins : Option Place) (first end : ℕ) → AreDecided plan (items_before begins) → AreDecided plan (slice_range ids first end) → AreDecided plan (laid_items begins ids first end)
laid_decided plan ids begins first end before all =
    all_decided_of plan (laid_items begins ids first end)
    (All-append (λ id. IsSome (slot_of plan id)) (items_before begins) (slice_range ids first end) (decided_all_of plan (items_before begins) before) (decided_all_of plan (slice_range ids first end) all))

pub part_decided : (plan : List (Option Slot)) (ids : List ℕ) (first end : ℕ) → AreDecided plan ids → AreDecided plan (slice_range ids first end)
part_decided plan ids first end all = λ k below.
    let far : first + k < length ids = omega (arith, below, part_length ids first end) in
    subst (λ id. IsSome (slot_of plan id)) (sym (part_item ids first end k 0 below)) (all (first + k) far)

pub before_or_behind : (place end : ℕ) → (place < end) ⊎ (end ≤ place)
before_or_behind place end = grind arith
