-- The first decision stands.
use Rattle.std.proofs.Common.{◌≡◌, ◌≢◌, ◌∙◌, ◌==◌, ◌⊎◌, inl, inr, ℕ, true, false, Option, Some, None, List, [], ◌∷◌, length, set, refl, sym, subst, arith}
use Rattle.std.proofs.lemmas.List.{get_or-set_same, get_or-set_other, length-set}
use Rattle.std.proofs.lemmas.Bool.{ne_eqb, eq-eqb}
use Rattle.replacements.specs.declared.slot.Slot.{Slot}
use Rattle.replacements.specs.Decisions.{slot_of, decided}
use Rattle.replacements.specs.Laws.{DecisionsStay, FirstDecisionStands}

-- a decision for a gap that is decided changes nothing
pub kept : (plan : List (Option Slot)) (place : ℕ) (slot first : Slot) → slot_of plan place ≡ Some first → decided plan place slot ≡ plan
kept plan place slot first is = rw is refl

-- a decision for an open gap
pub new : (plan : List (Option Slot)) (place : ℕ) (slot : Slot) → slot_of plan place ≡ None → decided plan place slot ≡ set plan place (Some slot)
new plan place slot is = rw is refl

cases : (o : Option Slot) → (o ≡ None) ⊎ ((first : Slot) × (o ≡ Some first))
cases None = inl refl
cases (Some first) = inr (first, refl)

same_or_other : (a b : ℕ) → (a ≡ b) ⊎ (a ≢ b)
same_or_other a b = grind arith

pub length_one : (plan : List (Option Slot)) (place : ℕ) (slot : Slot) → length (decided plan place slot) ≡ length plan
length_one plan place slot = elim (cases (slot_of plan place)) [
  | inl open_gap ↦ rw (new plan place slot open_gap) (length-set plan place (Some slot))
  | inr (first, is) ↦ rw (kept plan place slot first is) refl
]

-- a decision for another gap
pub other_gap : (plan : List (Option Slot)) (at : ℕ) (slot : Slot) (place : ℕ) → place ≢ at → slot_of (decided plan at slot) place ≡ slot_of plan place
other_gap plan at slot place ne = elim (cases (slot_of plan at)) [
  | inl open_gap ↦ rw (new plan at slot open_gap) (get_or-set_other plan at place (Some slot) None ne)
  | inr (first, is) ↦ rw (kept plan at slot first is) refl
]

stays_once : (plan : List (Option Slot)) (at : ℕ) (made : Slot) (place : ℕ) (slot : Slot) → slot_of plan place ≡ Some slot
    → slot_of (decided plan at made) place ≡ Some slot
stays_once plan at made place slot is = elim (same_or_other place at) [
  | inl e ↦ rw (kept plan at made slot (subst (λ p. slot_of plan p ≡ Some slot) e is)) is
  | inr ne ↦ other_gap plan at made place ne ∙ is
]

pub stay : DecisionsStay
stay plan [] place slot is = is
stay plan (made ∷ later) place slot is = stay (decided plan made.0 made.1) later place slot (stays_once plan made.0 made.1 place slot is)

pub first : FirstDecisionStands
first plan [] place within open_gap = open_gap
first plan (made ∷ later) place within open_gap = elim (same_or_other made.0 place) [
  | inl e ↦
      let taken : slot_of (decided plan made.0 made.1) place ≡ Some made.1 =
      rw (e, new plan place made.1 open_gap) (get_or-set_same plan place (Some made.1) None within) in
      let test : (made.0 == place) ≡ true = eq-eqb made.0 place e in
      rw test (stay (decided plan made.0 made.1) later place made.1 taken)
  | inr ne ↦
      let test : (made.0 == place) ≡ false = ne_eqb made.0 place ne in
      let still_open : slot_of (decided plan made.0 made.1) place ≡ None = other_gap plan made.0 made.1 place (λ e. ne (sym e)) ∙ open_gap in
      rw test (first (decided plan made.0 made.1) later place (rw (length_one plan made.0 made.1) within) still_open)
]
