-- The first of some characters, and the first word of a table that passes.
use Rattle.std.proofs.Common.{◌≡◌, ◌==◌, ℕ, Bool, false, List, [], ◌∷◌, ◌++◌, Some, None, slice_get, refl, ap, subst}
use Rattle.std.proofs.lemmas.Bool.{and_left}
use Rattle.c_grammar.specs.Touch.{starts, is_front}

pub first_some : (p : ℕ → Bool) (s : List ℕ) (c : ℕ) → slice_get s 0 ≡ Some c → starts p s ≡ p c
first_some p [] c h = cc
first_some p (x ∷ s) c h = let e : x ≡ c = cc in ap p e

pub first_none : (p : ℕ → Bool) (s : List ℕ) → slice_get s 0 ≡ None → starts p s ≡ false
first_none p [] h = refl
first_none p (x ∷ s) h = cc

-- a word that begins with another character than these doesn't begin with them
pub front_other : (s end word : List ℕ) (c : ℕ) → Some c ≡ slice_get s 0 → starts (λ b. c == b) word ≡ false → is_front (s ++ end) word ≡ false
front_other [] end word c is other = cc
front_other (a ∷ s) end [] c is other = refl
front_other (a ∷ s) end (b ∷ word) c is other =
    let same : c ≡ a = cc in
    and_left (a == b) (is_front (s ++ end) word) (subst (λ x. (x == b) ≡ false) same other)
