-- Sixteen values, as those of the elements of a list.
use Rattle.std.proofs.Common.{◌≡◌, ◌∙◌, ℕ, ◌+◌, ◌<◌, List, [], ◌∷◌, map, drop, length, get_or, sym, ap, ap₂, arith}
use Rattle.std.proofs.lemmas.List.{drop_all, drop_more}
use Rattle.token_classes.specs.declared.class.TokenClass.{TokenClass}

module _ (f : TokenClass → ℕ) (xs : List TokenClass) (d : TokenClass) where
  step : (k a : ℕ) (rest : List ℕ) → k < length xs → a ≡ f (get_or xs k d) → rest ≡ map f (drop (k + 1) xs) → a ∷ rest ≡ map f (drop k xs)
  step k a rest within at behind = ap₂ (λ (x : ℕ) (ys : List ℕ). x ∷ ys) at behind ∙ sym (ap (map f) (drop_more xs k d within))

  pub sixteen : (a0 a1 a2 a3 a4 a5 a6 a7 a8 a9 a10 a11 a12 a13 a14 a15 : ℕ) → length xs ≡ 16
      → a0 ≡ f (get_or xs 0 d) → a1 ≡ f (get_or xs 1 d) → a2 ≡ f (get_or xs 2 d) → a3 ≡ f (get_or xs 3 d) → a4 ≡ f (get_or xs 4 d) → a5 ≡ f (get_or xs 5 d) → a6 ≡ f (get_or xs 6 d) → a7 ≡ f (get_or xs 7 d)
      → a8 ≡ f (get_or xs 8 d) → a9 ≡ f (get_or xs 9 d) → a10 ≡ f (get_or xs 10 d) → a11 ≡ f (get_or xs 11 d) → a12 ≡ f (get_or xs 12 d) → a13 ≡ f (get_or xs 13 d) → a14 ≡ f (get_or xs 14 d) → a15 ≡ f (get_or xs 15 d)
      → a0 ∷ a1 ∷ a2 ∷ a3 ∷ a4 ∷ a5 ∷ a6 ∷ a7 ∷ a8 ∷ a9 ∷ a10 ∷ a11 ∷ a12 ∷ a13 ∷ a14 ∷ a15 ∷ [] ≡ map f xs
  sixteen a0 a1 a2 a3 a4 a5 a6 a7 a8 a9 a10 a11 a12 a13 a14 a15 long e0 e1 e2 e3 e4 e5 e6 e7 e8 e9 e10 e11 e12 e13 e14 e15 =
      step 0 a0 _ (omega (arith, long)) e0 (step 1 a1 _ (omega (arith, long)) e1 (step 2 a2 _ (omega (arith, long)) e2 (step 3 a3 _ (omega (arith, long)) e3
      (step 4 a4 _ (omega (arith, long)) e4 (step 5 a5 _ (omega (arith, long)) e5 (step 6 a6 _ (omega (arith, long)) e6 (step 7 a7 _ (omega (arith, long)) e7
      (step 8 a8 _ (omega (arith, long)) e8 (step 9 a9 _ (omega (arith, long)) e9 (step 10 a10 _ (omega (arith, long)) e10 (step 11 a11 _ (omega (arith, long)) e11
      (step 12 a12 _ (omega (arith, long)) e12 (step 13 a13 _ (omega (arith, long)) e13 (step 14 a14 _ (omega (arith, long)) e14 (step 15 a15 _ (omega (arith, long)) e15 (sym (ap (map f) (drop_all 16 xs (omega (arith, long))))))))))))))))))))
