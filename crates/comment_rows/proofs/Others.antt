-- Tokens that are no trailing comments.
use Rattle.std.proofs.Common.{◌≡◌, ◌+◌, ◌<◌, ◌≤◌, ◌⊎◌, inl, inr, ℕ, true, false, Option, List, get_or, sym, arith, ◌∙◌}
use Rattle.std.specs.Prelude.{IsSome}
use Rattle.std.proofs.lemmas.Bool.{false≢true}
use Rattle.line_tokens.specs.Roles.{is_trailing}
use Rattle.line_tokens.specs.declared.LineTok.{LineTok}
use Rattle.replacements.specs.declared.slot.Slot.{Slot}
use Rattle.replacements.specs.Decisions.{slot_of}

either_side : (at i : ℕ) → (i < at) ⊎ (at ≤ i)
either_side at i = grind arith

-- those of one stretch, and of the stretch behind it
pub others_on : (tokens : List LineTok) (from at end : ℕ) → ((i : ℕ) (d : LineTok) → from ≤ i → i < at → is_trailing (get_or tokens i d).role ≡ false)
    → ((i : ℕ) (d : LineTok) → at ≤ i → i < end → is_trailing (get_or tokens i d).role ≡ false) → (i : ℕ) (d : LineTok) → from ≤ i → i < end → is_trailing (get_or tokens i d).role ≡ false
others_on tokens from at end before behind i d low high = elim (either_side at i) [
  | inl earlier ↦ before i d low earlier
  | inr later ↦ behind i d later high
]

-- one more
pub others_more : (tokens : List LineTok) (from at : ℕ) → ((d : LineTok) → is_trailing (get_or tokens at d).role ≡ false)
    → ((i : ℕ) (d : LineTok) → from ≤ i → i < at → is_trailing (get_or tokens i d).role ≡ false) → (i : ℕ) (d : LineTok) → from ≤ i → i < at + 1 → is_trailing (get_or tokens i d).role ≡ false
others_more tokens from at other before = others_on tokens from at (at + 1) before one
  where
    one : (i : ℕ) (d : LineTok) → at ≤ i → i < at + 1 → is_trailing (get_or tokens i d).role ≡ false
    one i d low high =
        let same : i ≡ at = omega (arith, low, high) in
        rw same (other d)

-- where no token of a stretch is one, each that is one is decided
pub none_open : (plan : List (Option Slot)) (tokens : List LineTok) (from end : ℕ) → ((i : ℕ) (d : LineTok) → i < from → is_trailing (get_or tokens i d).role ≡ true → IsSome (slot_of plan (get_or tokens i d).id.0))
    → ((i : ℕ) (d : LineTok) → from ≤ i → i < end → is_trailing (get_or tokens i d).role ≡ false) → (i : ℕ) (d : LineTok) → i < end → is_trailing (get_or tokens i d).role ≡ true → IsSome (slot_of plan (get_or tokens i d).id.0)
none_open plan tokens from end before others i d high waits = elim (either_side from i) [
  | inl earlier ↦ before i d earlier waits
  | inr later ↦ absurd (false≢true (sym (others i d later high) ∙ waits))
]

-- one that is decided
pub one_decided : (plan : List (Option Slot)) (tokens : List LineTok) (at : ℕ) → ((d : LineTok) → IsSome (slot_of plan (get_or tokens at d).id.0))
    → ((i : ℕ) (d : LineTok) → i < at → is_trailing (get_or tokens i d).role ≡ true → IsSome (slot_of plan (get_or tokens i d).id.0))
    → (i : ℕ) (d : LineTok) → i < at + 1 → is_trailing (get_or tokens i d).role ≡ true → IsSome (slot_of plan (get_or tokens i d).id.0)
one_decided plan tokens at some before i d high waits = elim (either_side at i) [
  | inl earlier ↦ before i d earlier waits
  | inr later ↦ (let same : i ≡ at = omega (arith, later, high) in rw same (some d))
]
