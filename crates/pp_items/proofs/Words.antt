-- Two tests of texts are one.
use Rattle.std.proofs.Common.{◌≡◌, ◌==◌, ◌&&◌, ℕ, List, [], ◌∷◌, refl, ap}
use Rattle.std.specs.Str.{bytes_eq}
use Rattle.c_grammar.specs.Grammar.{is_same}

pub same_bytes : (s t : List ℕ) → bytes_eq s t ≡ is_same s t
same_bytes [] [] = refl
same_bytes [] (y ∷ t) = refl
same_bytes (x ∷ s) [] = refl
same_bytes (x ∷ s) (y ∷ t) = ap (λ z. (x == y) && z) (same_bytes s t)
