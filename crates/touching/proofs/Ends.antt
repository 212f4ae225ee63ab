-- The last character, where one before passes or doesn't.
use Rattle.std.proofs.Common.{◌≡◌, ℕ, Bool, false, List, [], ◌∷◌, refl}
use Rattle.c_grammar.specs.Touch.{ends}

abbrev pub ends_after : (ℕ → Bool) → Bool → List ℕ → Bool
ends_after p last [] = last
ends_after p last (c ∷ s) = ends_after p (p c) s

pub ends_after_none : (p : ℕ → Bool) (s : List ℕ) → ends_after p false s ≡ ends p s
ends_after_none p [] = refl
ends_after_none p (c ∷ []) = refl
ends_after_none p (c ∷ e ∷ s) = again p c e s
  where
    again : (p : ℕ → Bool) (c e : ℕ) (s : List ℕ) → ends_after p (p e) s ≡ ends p (e ∷ s)
    again p c e [] = refl
    again p c e (f ∷ s) = again p e f s
