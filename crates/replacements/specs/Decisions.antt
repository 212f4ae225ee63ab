-- What is decided for the gaps of a text, one decision after another. docs/PROFILE.md, "Runs": the first run that sees
-- a gap decides it.
use Rattle.std.specs.Prelude.{◌≡◌, ◌==◌, ◌<◌, ◌≤◌, ℕ, List, [], ◌∷◌, Option, Some, None, is_some, IsSome, if◌then◌else◌}
use Rattle.std.specs.Prelude.{slice_index_or, slice_set}
use Rattle.replacements.specs.declared.slot.Slot.{Slot}

-- what a plan has for the gap at a place: nothing where it is open
abbrev pub slot_of : List (Option Slot) → ℕ → Option Slot
slot_of plan place = slice_index_or plan place None

-- the plan after a decision for a gap, which stands where the gap was open and else changes nothing
abbrev pub decided : List (Option Slot) → ℕ → Slot → List (Option Slot)
decided plan place slot = if is_some (slot_of plan place) then plan else slice_set plan place (Some slot)

-- the plan after decisions, made in this order
abbrev pub decided_all : List (Option Slot) → List (ℕ × Slot) → List (Option Slot)
decided_all plan [] = plan
decided_all plan (made ∷ later) = decided_all (decided plan made.0 made.1) later

-- the first of these decisions that was made for a place
abbrev pub first_for : ℕ → List (ℕ × Slot) → Option Slot
first_for place [] = None
first_for place (made ∷ later) = if made.0 == place then Some made.1 else first_for place later

-- the gaps at the places from one up to another are decided
abbrev pub AreDecided : List (Option Slot) → ℕ → ℕ → Type 0
AreDecided plan first end = (place : ℕ) → first ≤ place → place < end → IsSome (slot_of plan place)

-- one of them is open
pub record IsSomeOpen (plan : List (Option Slot)) (first end : ℕ) : Type 0 where
  pub place : ℕ
  pub from : first ≤ place
  pub within : place < end
  pub open_gap : slot_of plan place ≡ None
