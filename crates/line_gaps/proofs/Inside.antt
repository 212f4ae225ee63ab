-- The gaps inside a line, looked at one after another.
use Rattle.std.proofs.Common.{◌≡◌, ◌∙◌, ◌<◌, ◌+◌, ◌⊎◌, inl, inr, ℕ, Option, Some, None, List, Bool, slice_get, false, refl}
use Rattle.std.proofs.Common.{sym, ap, arith}
use Rattle.std.specs.Prelude.{IsSome, IsTrue, ◌↔◌}
use Rattle.std.proofs.lemmas.Bool.{false≢true}
use Rattle.std.proofs.Math.Nat.{eq-or-lt_of_le}
use Rattle.line_tokens.specs.declared.LineTok.{LineTok}
use Rattle.replacements.specs.declared.slot.Slot.{Slot}
use Rattle.replacements.specs.Decisions.{slot_of}

some_same : (a b : LineTok) → Some a ≡ Some b → a ≡ b
some_same a b e = cc

-- a gap of which it isn't told that it is decided is open
pub open_told : (o : Option Slot) (decided : Bool) → (IsTrue decided ↔ IsSome o) → decided ≡ false → o ≡ None
open_told None decided told is = refl
open_told (Some slot) decided told is = absurd (false≢true (sym is ∙ told.1 refl))

-- one more token whose gap is open
pub inside_more : (plan : List (Option Slot)) (tokens : List LineTok) (at : ℕ) (right : LineTok)
    → ((i : ℕ) (token : LineTok) → 0 < i → i < at → slice_get tokens i ≡ Some token → slot_of plan token.id.0 ≡ None)
    → slice_get tokens at ≡ Some right → slot_of plan right.id.0 ≡ None
    → (i : ℕ) (token : LineTok) → 0 < i → i < at + 1 → slice_get tokens i ≡ Some token → slot_of plan token.id.0 ≡ None
inside_more plan tokens at right before here open_gap i token some within is = by_place (eq-or-lt_of_le {n = i} {m = at} (omega (arith, within)))
  where
    by_place : (i ≡ at) ⊎ (i < at) → slot_of plan token.id.0 ≡ None
    by_place (inl same) = ap (λ (t : LineTok). slot_of plan t.id.0) (some_same token right (sym is ∙ (ap (slice_get tokens) same ∙ here))) ∙ open_gap
    by_place (inr less) = before i token some less is
