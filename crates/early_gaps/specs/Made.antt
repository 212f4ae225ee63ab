-- Decisions for places in their order.
use Rattle.std.specs.Prelude.{ℕ, zero, suc, ◌+◌, Option, Some, None, List, [], ◌∷◌, ◌++◌}
use Rattle.replacements.specs.declared.slot.Slot.{Slot}

-- what is decided for the gap at a place, if anything is
abbrev pub made_at : ℕ → Option Slot → List (ℕ × Slot)
made_at place None = []
made_at place (Some slot) = (place, slot) ∷ []

-- what is decided for so many places from this one on, where this is decided for each
abbrev pub made_from : (ℕ → Option Slot) → ℕ → ℕ → List (ℕ × Slot)
made_from slot_at place zero = []
made_from slot_at place (suc count) = made_at place (slot_at place) ++ made_from slot_at (place + 1) count
