-- Lists of choices that come after a prefix, or begin with it.
use Rattle.std.proofs.Common.{◌≡◌, ◌<◌, ◌⊎◌, inl, inr, Bool, true, false, List, [], ◌∷◌, ◌++◌, length, refl, arith, ap}
use Rattle.line_state.specs.Choices.{IsNotAfter}
use Rattle.line_state.proofs.Ways.{onto}
use Rattle.break_search.specs.Descent.{IsPast}

-- the list begins with the choices p and b
abbrev pub BeginsWith : List Bool → Bool → List Bool → Type 0
BeginsWith p b w = (bs : List Bool) × (w ≡ p ++ b ∷ bs)

longer : (x b : Bool) (p w : List Bool) → BeginsWith p b w → BeginsWith (x ∷ p) b (x ∷ w)
longer x b p w h = (h.0, ap (λ (l : List Bool). x ∷ l) h.1)

-- what doesn't begin with a stay comes after it
pub split_stay : (p w : List Bool) → IsNotAfter (p ++ false ∷ []) w → BeginsWith p false w ⊎ IsNotAfter (p ++ true ∷ []) w
split_stay [] [] h = absurd h
split_stay [] (false ∷ w) h = inl (w, refl)
split_stay [] (true ∷ w) h = inr tt
split_stay (x ∷ p) [] h = absurd h
split_stay (false ∷ p) (true ∷ w) h = inr tt
split_stay (true ∷ p) (false ∷ w) h = absurd h
split_stay (false ∷ p) (false ∷ w) h = elim (split_stay p w h) [
  | inl begins ↦ inl (longer false false p w begins)
  | inr later ↦ inr later
]
split_stay (true ∷ p) (true ∷ w) h = elim (split_stay p w h) [
  | inl begins ↦ inl (longer true false p w begins)
  | inr later ↦ inr later
]

-- what doesn't begin with a break either comes after all that begin with the choices before it
pub split_break : (p w : List Bool) → IsNotAfter (p ++ true ∷ []) w → BeginsWith p true w ⊎ IsPast p w
split_break [] [] h = absurd h
split_break [] (false ∷ w) h = absurd h
split_break [] (true ∷ w) h = inl (w, refl)
split_break (x ∷ p) [] h = absurd h
split_break (false ∷ p) (true ∷ w) h = inr tt
split_break (true ∷ p) (false ∷ w) h = absurd h
split_break (false ∷ p) (false ∷ w) h = elim (split_break p w h) [
  | inl begins ↦ inl (longer false true p w begins)
  | inr later ↦ inr later
]
split_break (true ∷ p) (true ∷ w) h = elim (split_break p w h) [
  | inl begins ↦ inl (longer true true p w begins)
  | inr later ↦ inr later
]

-- behind what begins with a stay comes what begins with the break
pub past_stay : (p w : List Bool) → IsPast (p ++ false ∷ []) w → IsNotAfter (p ++ true ∷ []) w
past_stay [] [] h = absurd h
past_stay [] (false ∷ w) h = absurd h
past_stay [] (true ∷ w) h = tt
past_stay (x ∷ p) [] h = absurd h
past_stay (false ∷ p) (true ∷ w) h = tt
past_stay (true ∷ p) (false ∷ w) h = absurd h
past_stay (false ∷ p) (false ∷ w) h = past_stay p w h
past_stay (true ∷ p) (true ∷ w) h = past_stay p w h

pub past_break : (p w : List Bool) → IsPast (p ++ true ∷ []) w → IsPast p w
past_break [] [] h = absurd h
past_break [] (false ∷ w) h = absurd h
past_break [] (true ∷ w) h = absurd h
past_break (x ∷ p) [] h = absurd h
past_break (false ∷ p) (true ∷ w) h = tt
past_break (true ∷ p) (false ∷ w) h = absurd h
past_break (false ∷ p) (false ∷ w) h = past_break p w h
past_break (true ∷ p) (true ∷ w) h = past_break p w h

-- the first that begins with the choices stays next
pub stays_next : (p w : List Bool) → IsNotAfter p w → length p < length w → IsNotAfter (p ++ false ∷ []) w
stays_next [] [] h less = absurd (omega (arith, less))
stays_next [] (false ∷ w) h less = tt
stays_next [] (true ∷ w) h less = tt
stays_next (x ∷ p) [] h less = absurd h
stays_next (false ∷ p) (true ∷ w) h less = tt
stays_next (true ∷ p) (false ∷ w) h less = absurd h
stays_next (false ∷ p) (false ∷ w) h less = stays_next p w h (omega (arith, less))
stays_next (true ∷ p) (true ∷ w) h less = stays_next p w h (omega (arith, less))

onto_more : (r xs bs : List Bool) → onto r (xs ++ bs) ≡ onto r xs ++ bs
onto_more [] xs bs = refl
onto_more (b ∷ r) xs bs = onto_more r (b ∷ xs) bs

-- choices put on others
pub onto_tail : (r bs : List Bool) → onto r bs ≡ onto r [] ++ bs
onto_tail r bs = onto_more r [] bs
