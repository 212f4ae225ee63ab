-- Trying every cut of a list finds one exactly where there is one.
use Rattle.std.proofs.Common.{◌≡◌, ℕ, Bool, true, false, List, [], ◌∷◌, ◌++◌, refl, sym, ◌∙◌, ap, subst, inl, inr}
use Rattle.std.specs.Prelude.{◌&&◌, ◌||◌}
use Rattle.std.specs.List.{list_all}
use Rattle.std.proofs.lemmas.Bool.{and_from, and_parts, or_left, or_right, or_cases}
use Rattle.std.proofs.lemmas.List.{append-nil}
use Rattle.c_grammar.specs.Grammar.{joined, is_same, AreUnits}
use Rattle.c_grammar.proofs.Lists.{same_is}
use Rattle.pp_model.specs.Finding.{cuts, goes_on, are_units}

-- A choice that waits is the same as a formula.
chosen : (a b c : Bool) → elim a [ true ↦ elim b [ true ↦ true | false ↦ c ] | false ↦ c ] ≡ ((a && b) || c)
chosen true true c = refl
chosen true false c = refl
chosen false b c = refl

cuts_at : (p q : List ℕ → Bool) (c : ℕ) (s : List ℕ) → cuts p q (c ∷ s) ≡ ((p [] && q (c ∷ s)) || cuts (λ x. p (c ∷ x)) q s)
cuts_at p q c s = chosen (p []) (q (c ∷ s)) (cuts (λ x. p (c ∷ x)) q s)

goes_at : (p r : List ℕ → Bool) (c : ℕ) (s : List ℕ) → goes_on p r (c ∷ s) ≡ ((r [] && goes_on p (λ x. p (c ∷ x)) s) || goes_on p (λ x. r (c ∷ x)) s)
goes_at p r c s = chosen (r []) (goes_on p (λ x. p (c ∷ x)) s) (goes_on p (λ x. r (c ∷ x)) s)

pub cuts_from : (p q : List ℕ → Bool) (a b : List ℕ) → p a ≡ true → q b ≡ true → cuts p q (a ++ b) ≡ true
cuts_from p q [] [] f g = and_from (p []) (q []) f g
cuts_from p q [] (c ∷ b) f g = cuts_at p q c b ∙ or_left (p [] && q (c ∷ b)) (cuts (λ x. p (c ∷ x)) q b) (and_from (p []) (q (c ∷ b)) f g)
cuts_from p q (c ∷ a) b f g = cuts_at p q c (a ++ b) ∙ or_right (p [] && q (c ∷ (a ++ b))) (cuts (λ x. p (c ∷ x)) q (a ++ b)) (cuts_from (λ x. p (c ∷ x)) q a b f g)

pub record IsCut (p q : List ℕ → Bool) (s : List ℕ) : Type 0 where
  pub front : List ℕ
  pub rest : List ℕ
  pub whole : s ≡ front ++ rest
  pub first : p front ≡ true
  pub second : q rest ≡ true

pub cuts_give : (p q : List ℕ → Bool) (s : List ℕ) → cuts p q s ≡ true → IsCut p q s
cuts_give p q [] h = let b = and_parts (p []) (q []) h in record { front = []; rest = []; whole = refl; first = b.0; second = b.1 }
cuts_give p q (c ∷ s) h = elim (or_cases (p [] && q (c ∷ s)) (cuts (λ x. p (c ∷ x)) q s) (sym (cuts_at p q c s) ∙ h)) [
  | inl e ↦ let b = and_parts (p []) (q (c ∷ s)) e in record { front = []; rest = c ∷ s; whole = refl; first = b.0; second = b.1 }
  | inr e ↦
      let i = cuts_give (λ x. p (c ∷ x)) q s e in
      record { front = c ∷ i.front; rest = i.rest; whole = ap (λ z. c ∷ z) i.whole; first = i.first; second = i.second }
]

-- Sequences

goes_shift : (p r : List ℕ → Bool) (a s : List ℕ) → goes_on p (λ x. r (a ++ x)) s ≡ true → goes_on p r (a ++ s) ≡ true
goes_shift p r [] s h = h
goes_shift p r (c ∷ a) s h =
    goes_at p r c (a ++ s) ∙ or_right (r [] && goes_on p (λ x. p (c ∷ x)) (a ++ s)) (goes_on p (λ x. r (c ∷ x)) (a ++ s)) (goes_shift p (λ x. r (c ∷ x)) a s h)

goes_units : (p r : List ℕ → Bool) (us : List (List ℕ)) → r [] ≡ true → list_all p us ≡ true → goes_on p r (joined us) ≡ true
goes_units p r [] h e = h
goes_units p r ([] ∷ us) h e = goes_units p r us h (and_parts (p []) (list_all p us) e).1
goes_units p r ((c ∷ u) ∷ us) h e =
    let b = and_parts (p (c ∷ u)) (list_all p us) e in
    let full : p (c ∷ (u ++ [])) ≡ true = subst (λ z. p (c ∷ z) ≡ true) (sym (append-nil u)) b.0 in
    let more : goes_on p (λ x. p (c ∷ x)) (u ++ joined us) ≡ true = goes_shift p (λ x. p (c ∷ x)) u (joined us) (goes_units p (λ x. p (c ∷ (u ++ x))) us full b.1) in
    goes_at p r c (u ++ joined us)
    ∙ or_left (r [] && goes_on p (λ x. p (c ∷ x)) (u ++ joined us)) (goes_on p (λ x. r (c ∷ x)) (u ++ joined us))
    (and_from (r []) (goes_on p (λ x. p (c ∷ x)) (u ++ joined us)) h more)

record IsGoing (p r : List ℕ → Bool) (s : List ℕ) : Type 0 where
  front : List ℕ
  units : List (List ℕ)
  whole : s ≡ front ++ joined units
  completes : r front ≡ true
  each : list_all p units ≡ true

goes_give : (p r : List ℕ → Bool) (s : List ℕ) → goes_on p r s ≡ true → IsGoing p r s
goes_give p r [] h = record { front = []; units = []; whole = refl; completes = h; each = refl }
goes_give p r (c ∷ s) h = elim (or_cases (r [] && goes_on p (λ x. p (c ∷ x)) s) (goes_on p (λ x. r (c ∷ x)) s) (sym (goes_at p r c s) ∙ h)) [
  | inr e ↦
      let i = goes_give p (λ x. r (c ∷ x)) s e in
      record { front = c ∷ i.front; units = i.units; whole = ap (λ z. c ∷ z) i.whole; completes = i.completes; each = i.each }
  | inl e ↦
      let b = and_parts (r []) (goes_on p (λ x. p (c ∷ x)) s) e in
      let i = goes_give p (λ x. p (c ∷ x)) s b.1 in
      record {
        front = [];
        units = (c ∷ i.front) ∷ i.units;
        whole = ap (λ z. c ∷ z) i.whole;
        completes = b.0;
        each = and_from (p (c ∷ i.front)) (list_all p i.units) i.completes i.each;
      }
]

pub units_found : (p : List ℕ → Bool) (s : List ℕ) → AreUnits p s → are_units p s ≡ true
units_found p s h = subst (λ z. are_units p z ≡ true) (sym h.whole) (goes_units p (λ a. is_same a []) h.units refl h.each)

pub units_are : (p : List ℕ → Bool) (s : List ℕ) → are_units p s ≡ true → AreUnits p s
units_are p s e =
    let i = goes_give p (λ a. is_same a []) s e in
    let nothing : i.front ≡ [] = same_is i.front [] i.completes in
    record { units = i.units; each = i.each; whole = i.whole ∙ ap (λ z. z ++ joined i.units) nothing }
