-- What holds after any decisions.
use Rattle.std.specs.Prelude.{◌≡◌, ◌<◌, ℕ, List, Option, Some, None, length}
use Rattle.replacements.specs.declared.slot.Slot.{Slot}
use Rattle.replacements.specs.Decisions.{slot_of, decided_all, first_for}

-- What is decided for a gap stays.
abbrev pub DecisionsStay : Type 0
DecisionsStay = (plan : List (Option Slot)) (made : List (ℕ × Slot)) (place : ℕ) (slot : Slot)
    → slot_of plan place ≡ Some slot → slot_of (decided_all plan made) place ≡ Some slot

-- A gap that was open has the first decision that was made for it, and is open where none was.
abbrev pub FirstDecisionStands : Type 0
FirstDecisionStands = (plan : List (Option Slot)) (made : List (ℕ × Slot)) (place : ℕ)
    → place < length plan → slot_of plan place ≡ None → slot_of (decided_all plan made) place ≡ first_for place made
