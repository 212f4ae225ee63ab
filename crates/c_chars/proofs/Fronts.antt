-- What a text begins with, character by character.
use Rattle.std.proofs.Common.{◌≡◌, ◌∙◌, ◌<◌, ◌+◌, ℕ, false, ◌&&◌, List, [], ◌∷◌, length, drop, get_or, nat_eq, add-one, drop-cons, refl, sym, ap}
use Rattle.std.specs.List.{starts_with}
use Rattle.std.proofs.lemmas.Bool.{and_left, eq-eqb, ne_eqb}
use Rattle.c_chars.specs.Characters.{bytes_of}
use Rattle.c_chars.specs.declared.LogicalChar.{LogicalChar}

module _ (front : List ℕ) (i : ℕ) (room : i < length front) where
  first_byte : (b : ℕ) (s : List ℕ) → starts_with nat_eq (b ∷ s) (drop i front) ≡ (nat_eq (get_or front i 0) b && starts_with nat_eq s (drop (i + 1) front))
  first_byte b s = rw (add-one, drop-cons front i 0) refl

  no_byte : starts_with nat_eq [] (drop i front) ≡ false
  no_byte = rw (drop-cons front i 0) refl

  module _ (rest new : List LogicalChar) (c : LogicalChar) (next : rest ≡ c ∷ new) where
    -- the same byte begins both
    pub same_first : c.byte ≡ get_or front i 0 → starts_with nat_eq (bytes_of new) (drop (i + 1) front) ≡ starts_with nat_eq (bytes_of rest) (drop i front)
    same_first same =
        sym (ap (λ z. starts_with nat_eq (bytes_of z) (drop i front)) next
        ∙ (first_byte c.byte (bytes_of new) ∙ ap (λ t. t && starts_with nat_eq (bytes_of new) (drop (i + 1) front)) (eq-eqb (get_or front i 0) c.byte (sym same))))

    -- another byte begins the text
    pub other_first : (c.byte ≡ get_or front i 0 → ⊥) → starts_with nat_eq (bytes_of rest) (drop i front) ≡ false
    other_first other =
        ap (λ z. starts_with nat_eq (bytes_of z) (drop i front)) next ∙ (first_byte c.byte (bytes_of new) ∙ and_left _ _ (ne_eqb (get_or front i 0) c.byte (λ e. other (sym e))))

  -- nothing is left of the text
  pub none_first : (rest : List LogicalChar) → rest ≡ [] → starts_with nat_eq (bytes_of rest) (drop i front) ≡ false
  none_first rest none = ap (λ z. starts_with nat_eq (bytes_of z) (drop i front)) none ∙ no_byte
