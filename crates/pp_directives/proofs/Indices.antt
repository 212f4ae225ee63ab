-- The place of a name, counted from the front.
use Rattle.std.proofs.Common.{◌≡◌, ℕ, zero, suc, ◌+◌, Bool, true, false, List, [], ◌∷◌, Option, Some, None, refl, ap, ◌∙◌, arith}
use Rattle.std.specs.Prelude.{option_map, bytes_eq}
use Rattle.pp_model.specs.Token.{Name}
use Rattle.pp_model.specs.Define.{index_of}

-- where a name stands, counted from n on
abbrev pub index_from : ℕ → Name → List Name → Option ℕ
index_from n s [] = None
index_from n s (x ∷ xs) = elim (bytes_eq s x) [ true ↦ Some n | false ↦ index_from (n + 1) s xs ]

shifted : (n : ℕ) (o : Option ℕ) → option_map (λ k. n + 1 + k) o ≡ option_map (λ k. n + k) (option_map suc o)
shifted n None = refl
shifted n (Some k) = ap Some (omega arith)

by_case : (n : ℕ) (b : Bool) (r : Option ℕ) (q : Option ℕ) → r ≡ option_map (λ k. n + 1 + k) q →
    (let x : Option ℕ = elim b [ true ↦ Some n | false ↦ r ] in x) ≡ option_map (λ k. n + k) (let x : Option ℕ = elim b [ true ↦ Some zero | false ↦ option_map suc q ] in x)
by_case n true r q e = ap Some (omega arith)
by_case n false r q e = e ∙ shifted n q

index_from_is : (n : ℕ) (s : Name) (xs : List Name) → index_from n s xs ≡ option_map (λ k. n + k) (index_of s xs)
index_from_is n s [] = refl
index_from_is n s (x ∷ xs) = by_case n (bytes_eq s x) (index_from (n + 1) s xs) (index_of s xs) (index_from_is (n + 1) s xs)

unshifted : (o : Option ℕ) → option_map (λ k. 0 + k) o ≡ o
unshifted None = refl
unshifted (Some k) = ap Some (omega arith)

pub index_from_start : (s : Name) (xs : List Name) → index_from 0 s xs ≡ index_of s xs
index_from_start s xs = index_from_is 0 s xs ∙ unshifted (index_of s xs)
