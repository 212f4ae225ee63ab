-- A plan stays sound where each decision that is made may stand.
use Rattle.std.proofs.Common.{◌≡◌, ◌≢◌, ◌∙◌, ◌⊎◌, inl, inr, ℕ, ◌<◌, ◌≤◌, Option, Some, None, List, [], ◌∷◌, length, set, refl, sym, ap, arith, subst}
use Rattle.std.proofs.lemmas.List.{get_or-set_same, set_past}
use Rattle.token_arena.specs.Gaps.{Contents}
use Rattle.replacements.specs.Decisions.{slot_of, decided, decided_all}
use Rattle.replacements.specs.Sound.{MayStand, IsSound}
use Rattle.replacements.specs.declared.slot.Slot.{Slot}
use Rattle.replacements.proofs.Firsts.{kept, new, other_gap}

-- each of these decisions may stand
abbrev pub MadeStand : Contents → List (ℕ × Slot) → Type 0
MadeStand arena [] = Unit {0}
MadeStand arena (m ∷ made) = MayStand arena m.0 m.1.decision × MadeStand arena made

cases : (o : Option Slot) → (o ≡ None) ⊎ ((first : Slot) × (o ≡ Some first))
cases None = inl refl
cases (Some first) = inr (first, refl)

place_cases : (at place n : ℕ) → (n ≤ at) ⊎ ((place ≢ at) ⊎ ((place ≡ at) × (at < n)))
place_cases at place n = grind arith

set_sound : (arena : Contents) (plan : List (Option Slot)) (at : ℕ) (made : Slot) → IsSound arena plan → MayStand arena at made.decision
    → (place : ℕ) (slot : Slot) → slot_of (set plan at (Some made)) place ≡ Some slot → decided plan at made ≡ set plan at (Some made) → MayStand arena place slot.decision
set_sound arena plan at made sound stands place slot is was = elim (place_cases at place (length plan)) [
  | inl past ↦ sound place slot (ap (λ p. slot_of p place) (sym (set_past plan at (Some made) past)) ∙ is)
  | inr (inl other) ↦ sound place slot (sym (other_gap plan at made place other) ∙ ap (λ p. slot_of p place) was ∙ is)
  | inr (inr here) ↦
      let there : slot_of (set plan at (Some made)) at ≡ Some made = get_or-set_same plan at (Some made) None here.1 in
      let found : slot_of (set plan at (Some made)) at ≡ Some slot = ap (slot_of (set plan at (Some made))) (sym here.0) ∙ is in
      let same : made ≡ slot = cc in
      let P : ℕ → Type 0 = λ x. MayStand arena x slot.decision in
      let Q : Slot → Type 0 = λ s. MayStand arena at s.decision in
      subst P (sym here.0) (subst Q same stands)
]

one_sound : (arena : Contents) (plan : List (Option Slot)) (at : ℕ) (made : Slot) → IsSound arena plan → MayStand arena at made.decision → IsSound arena (decided plan at made)
one_sound arena plan at made sound stands = elim (cases (slot_of plan at)) [
  | inl open_gap ↦ λ place slot is.
      let was : decided plan at made ≡ set plan at (Some made) = new plan at made open_gap in
      set_sound arena plan at made sound stands place slot (ap (λ p. slot_of p place) (sym was) ∙ is) was
  | inr (first, is) ↦ rw (kept plan at made first is) sound
]

pub all_sound : (arena : Contents) (plan : List (Option Slot)) (made : List (ℕ × Slot)) → IsSound arena plan → MadeStand arena made → IsSound arena (decided_all plan made)
all_sound arena plan [] sound stand = sound
all_sound arena plan (m ∷ made) sound stand = all_sound arena (decided plan m.0 m.1) made (one_sound arena plan m.0 m.1 sound stand.0) stand.1
