-- Tokens before which nothing is decided.
use Rattle.std.proofs.Common.{◌≡◌, ◌∙◌, ◌⊎◌, inl, inr, ℕ, suc, ◌+◌, ◌<◌, ◌≤◌, Option, Some, None, List, [], ◌∷◌, length}
use Rattle.std.proofs.Common.{map, replicate, refl, sym, ap, arith, get_or, slice_get}
use Rattle.std.specs.Prelude.{All}
use Rattle.std.proofs.Math.Nat.{eq-or-lt_of_le}
use Rattle.std.proofs.lemmas.Option.{get_or_from_slice_get}
use Rattle.line_tokens.specs.declared.Fixed.{Fixed}
use Rattle.line_tokens.specs.declared.LineTok.{LineTok}
use Rattle.token_arena.specs.Gaps.{Contents}
use Rattle.replacements.specs.Breaks.{fixed_by}
use Rattle.replacements.specs.Decisions.{slot_of}
use Rattle.replacements.specs.declared.slot.Slot.{Slot}
use Rattle.line_gaps.specs.Fixed.{fixed_of_token}

pub none_fixed : (arena : Contents) (plan : List (Option Slot)) (tokens : List LineTok) → All (λ token. slot_of plan token.id.0 ≡ None) tokens
    → replicate (length tokens) None ≡ map (fixed_of_token arena plan) tokens
none_fixed arena plan [] each = refl
none_fixed arena plan (token ∷ tokens) each =
    let rest : List (Option Fixed) = replicate (length tokens) None in
    let here : fixed_of_token arena plan token ≡ None = ap (fixed_by arena token.id.0) (each 0 token (omega arith)) in
    ap (λ (fixed : Option Fixed). fixed ∷ rest) (sym here)
    ∙ ap (λ (fixed : List (Option Fixed)). fixed_of_token arena plan token ∷ fixed) (none_fixed arena plan tokens (λ i d within. each (suc i) d (omega (arith, within))))

-- one more token before which nothing is decided
pub open_next : (plan : List (Option Slot)) (tokens : List LineTok) (from at : ℕ) (token : LineTok) → ((i : ℕ) (d : LineTok) → from ≤ i → i < at → slot_of plan (get_or tokens i d).id.0 ≡ None)
    → slice_get tokens at ≡ Some token → slot_of plan token.id.0 ≡ None → (i : ℕ) (d : LineTok) → from ≤ i → i < at + 1 → slot_of plan (get_or tokens i d).id.0 ≡ None
open_next plan tokens from at token before here open_gap i d more within = by_place (eq-or-lt_of_le {n = i} {m = at} (omega (arith, within)))
  where
    by_place : (i ≡ at) ⊎ (i < at) → slot_of plan (get_or tokens i d).id.0 ≡ None
    by_place (inl same) = ap (λ n. slot_of plan (get_or tokens n d).id.0) same ∙ (ap (λ (t : LineTok). slot_of plan t.id.0) (get_or_from_slice_get tokens at token d here) ∙ open_gap)
    by_place (inr less) = before i d more less

before_or_behind : (i middle : ℕ) → (i < middle) ⊎ (middle ≤ i)
before_or_behind i middle = grind arith

-- and so of two stretches of them
pub open_both : (plan : List (Option Slot)) (tokens : List LineTok) (middle end : ℕ) → ((i : ℕ) (d : LineTok) → i < middle → slot_of plan (get_or tokens i d).id.0 ≡ None)
    → ((i : ℕ) (d : LineTok) → middle ≤ i → i < end → slot_of plan (get_or tokens i d).id.0 ≡ None) → (i : ℕ) (d : LineTok) → i < end → slot_of plan (get_or tokens i d).id.0 ≡ None
open_both plan tokens middle end front rest i d within = elim (before_or_behind i middle) [
  | inl less ↦ front i d less
  | inr more ↦ rest i d more within
]
