-- Decisions for a place.
use Rattle.std.proofs.Common.{◌≡◌, ◌∙◌, ℕ, ◌<◌, ◌⊎◌, inl, inr, Option, Some, None, List, [], ◌∷◌, length, refl, sym}
use Rattle.std.proofs.Common.{subst}
use Rattle.std.specs.Prelude.{IsSome}
use Rattle.std.proofs.lemmas.List.{get_or-set_same}
use Rattle.replacements.specs.declared.slot.Slot.{Slot}
use Rattle.replacements.specs.Decisions.{slot_of, decided, decided_all}
use Rattle.replacements.proofs.Firsts.{kept, new, length_one, stay}

-- one of these decisions is for the gap at this place
abbrev pub IsMadeFor : ℕ → List (ℕ × Slot) → Type 0
IsMadeFor place [] = ⊥
IsMadeFor place (made ∷ later) = (made.0 ≡ place) ⊎ IsMadeFor place later

-- the gap at this place is decided
abbrev pub IsDecided : List (Option Slot) → ℕ → Type 0
IsDecided plan place = (slot : Slot) × (slot_of plan place ≡ Some slot)

pub open_or_decided : (o : Option Slot) → (o ≡ None) ⊎ ((slot : Slot) × (o ≡ Some slot))
open_or_decided None = inl refl
open_or_decided (Some slot) = inr (slot, refl)

pub is_some-decided : (plan : List (Option Slot)) (place : ℕ) → IsDecided plan place → IsSome (slot_of plan place)
is_some-decided plan place h = rw h.1 refl

pub decided-is_some : (plan : List (Option Slot)) (place : ℕ) → IsSome (slot_of plan place) → IsDecided plan place
decided-is_some plan place h = elim (open_or_decided (slot_of plan place)) [
  | inl open_gap ↦ let never : IsSome {T = Slot} None = subst (λ o. IsSome o) open_gap h in cc
  | inr some ↦ some
]

decided_once : (plan : List (Option Slot)) (place : ℕ) (slot : Slot) → place < length plan → IsDecided (decided plan place slot) place
decided_once plan place slot within = elim (open_or_decided (slot_of plan place)) [
  | inl open_gap ↦ (slot, rw (new plan place slot open_gap) (get_or-set_same plan place (Some slot) None within))
  | inr (first, is) ↦ (first, rw (kept plan place slot first is) is)
]

-- what is decided stays decided
pub stays_decided : (plan : List (Option Slot)) (made : List (ℕ × Slot)) (place : ℕ) → IsDecided plan place → IsDecided (decided_all plan made) place
stays_decided plan made place h = (h.0, stay plan made place h.0 h.1)

pub length-decided_all : (plan : List (Option Slot)) (made : List (ℕ × Slot)) → length (decided_all plan made) ≡ length plan
length-decided_all plan [] = refl
length-decided_all plan (m ∷ made) = length-decided_all (decided plan m.0 m.1) made ∙ length_one plan m.0 m.1

-- a gap is decided behind decisions one of which is for it
pub made_decided : (plan : List (Option Slot)) (made : List (ℕ × Slot)) (place : ℕ) → place < length plan → IsMadeFor place made → IsDecided (decided_all plan made) place
made_decided plan [] place within h = absurd h
made_decided plan (m ∷ made) place within (inl e) =
    let once : IsDecided (decided plan m.0 m.1) place = subst (λ p. IsDecided (decided plan p m.1) place) (sym e) (decided_once plan place m.1 within) in
    stays_decided (decided plan m.0 m.1) made place once
made_decided plan (m ∷ made) place within (inr h) = made_decided (decided plan m.0 m.1) made place (rw (length_one plan m.0 m.1) within) h
