-- Lists whose characters are units by themselves.
use Rattle.std.proofs.Common.{◌≡◌, ◌||◌, ℕ, Bool, true, List, [], ◌∷◌, refl, ap, inl, inr}
use Rattle.std.specs.List.{list_all}
use Rattle.std.proofs.lemmas.Bool.{and_parts, or_cases, and_from, or_left, or_right}
use Rattle.unicode_ident.specs.Ident.{is_xid_start, is_xid_continue}
use Rattle.c_grammar.specs.Grammar.{is_wide, AreUnits, is_letter, is_digit, is_letter_unit, is_word_unit, is_universal_name}

-- characters that are units
pub singles : (p : ℕ → Bool) (q : List ℕ → Bool) → ((c : ℕ) → p c ≡ true → q (c ∷ []) ≡ true) → (s : List ℕ) → list_all p s ≡ true → AreUnits q s
singles p q f [] h = record { units = []; each = refl; whole = refl }
singles p q f (c ∷ s) h =
    let parts = and_parts (p c) (list_all p s) h in
    let rest = singles p q f s parts.1 in
    record { units = (c ∷ []) ∷ rest.units; each = and_from (q (c ∷ [])) (list_all q rest.units) (f c parts.0) rest.each; whole = ap (λ x. c ∷ x) rest.whole }

-- Identifiers

abbrev pub is_word : ℕ → Bool
is_word c = is_letter c || is_digit c

pub letter_single : (c : ℕ) → is_letter c ≡ true → is_letter_unit (c ∷ []) ≡ true
unfolding is_letter_unit
letter_single c h = or_left (is_letter c) (is_universal_name (c ∷ []) || is_wide is_xid_start (c ∷ [])) h

pub word_single : (c : ℕ) → is_word c ≡ true → is_word_unit (c ∷ []) ≡ true
unfolding is_word_unit
word_single c h = elim (or_cases (is_letter c) (is_digit c) h) [
  | inl e ↦ or_right (is_digit c) (is_letter_unit (c ∷ []) || is_wide is_xid_continue (c ∷ [])) (or_left (is_letter_unit (c ∷ [])) (is_wide is_xid_continue (c ∷ [])) (letter_single c e))
  | inr e ↦ or_left (is_digit c) (is_letter_unit (c ∷ []) || is_wide is_xid_continue (c ∷ [])) e
]
