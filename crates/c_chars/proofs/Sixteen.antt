-- A mask that is computed lane by lane, and the run that it ends.
use Rattle.std.proofs.Common.{◌≡◌, ◌∙◌, ℕ, ◌+◌, ◌*◌, ◌%◌, ◌^◌, ◌<◌, ◌≤◌, Bool, true, false, not, cond, eqb, min, List, [], ◌∷◌, ◌++◌, map, length, take, drop, Fits, w8, refl, sym, ap, ap₂, arith}
use Rattle.std.proofs.lemmas.Bool.{agree_below, agree_below_at, eqb-true, ne_eqb}
use Rattle.std.proofs.lemmas.Simd.{first_set_mask_l, map-map, mask_l-mod, trailing_mask_l}
use Rattle.std.proofs.lemmas.List.{length-append, length-map, length-take-le, take-append-drop}
use Rattle.std.proofs.lemmas.List.Folds.{prefix_len-append}
use Rattle.std.proofs.lemmas.List.Sums.{prefix_len-le-length}
use Rattle.std.specs.List.{prefix_len}
use lib.Lanes.{Each1, mask_l, top}
use lib.Count.{count_trailing_zeros}

each_byte : (f : ℕ → ℕ) (p : ℕ → Bool) → agree_below (λ x. top 7 (f x)) p 256 ≡ true → (v : List ℕ) → Each1 (Fits w8) v → map (λ x. top 7 (f x)) v ≡ map p v
each_byte f p all [] small = refl
each_byte f p all (x ∷ xs) small = ap₂ (λ a b. a ∷ b) (agree_below_at (λ y. top 7 (f y)) p 256 x all small.0.fits) (each_byte f p all xs small.1)

-- a mask whose lanes are computed from v is held to p at each of the 256 bytes
pub masked : (f : ℕ → ℕ) (p : ℕ → Bool) (v z : List ℕ) → length v ≡ 16 → Each1 (Fits w8) v → z ≡ map f v → agree_below (λ x. top 7 (f x)) p 256 ≡ true
    → mask_l (map (top 7) z) % 2 ^ 64 ≡ mask_l (map p v)
masked f p v z long small e all =
    ap (λ l. mask_l l % 2 ^ 64) (ap (map (top 7)) e ∙ (map-map (top 7) f v ∙ each_byte f p all v small)) ∙ mask_l-mod (map p v) 64 (omega (arith, length-map v p))

not-not : (b : Bool) → b ≡ not (not b)
not-not b = grind arith

none_stops : (b : Bool) (n l m : ℕ) → n ≤ l → cond b (1 + n) 0 ≡ 1 + l → (n ≡ l → m ≡ 0) → cond (not b) 1 0 + 2 * m ≡ 0
none_stops true n l m le e ih = let z = ih (omega arith) in omega arith
none_stops false n l m le e ih = let no : ⊥ = omega arith in absurd no

no_bit : count_trailing_zeros 64 0 ≡ 64
unfolding count_trailing_zeros
no_bit = refl

-- the lower of two numbers, where one of them is told by the other's case
lower : (a b : Bool) (l n p r z : ℕ) → cond a n z ≡ cond b (l + r) p → (a ≡ true → z ≡ 64) → (b ≡ true → p ≡ l) → p ≤ l → l ≤ n → n ≤ 64 → min l z ≡ p
lower true true l n p r z e f g le room few = let last = f refl in let all = g refl in omega arith
lower true false l n p r z e f g le room few = let last = f refl in omega arith
lower false true l n p r z e f g le room few = let all = g refl in omega arith
lower false false l n p r z e f g le room few = omega arith

module _ (q : ℕ → Bool) where
  same_run : (xs : List ℕ) → prefix_len q xs ≡ prefix_len (λ x. not (not (q x))) xs
  same_run [] = refl
  same_run (x ∷ xs) = ap₂ (λ b n. cond b (1 + n) 0) (not-not (q x)) (same_run xs)

  all_pass : (xs : List ℕ) → prefix_len q xs ≡ length xs → mask_l (map (λ x. not (q x)) xs) ≡ 0
  all_pass [] e = refl
  all_pass (x ∷ xs) e = none_stops (q x) _ (length xs) _ (prefix_len-le-length q xs) (omega arith) (all_pass xs)

  split : (d : List ℕ) (n : ℕ) → prefix_len q d ≡ cond (eqb (prefix_len q (take n d)) (length (take n d))) (length (take n d) + prefix_len q (drop n d)) (prefix_len q (take n d))
  split d n = ap (prefix_len q) (sym (take-append-drop n d)) ∙ prefix_len-append q (take n d) (drop n d)

  -- where the mask of the first bytes has a bit the run ends at the lowest
  pub run_stops : (d : List ℕ) (n : ℕ) → n ≤ length d → n ≤ 64 → 0 < mask_l (map (λ x. not (q x)) (take n d)) → prefix_len q d ≡ count_trailing_zeros 64 (mask_l (map (λ x. not (q x)) (take n d)))
  run_stops d n room short some =
      let t = take n d in
      split d n ∙ ap (λ b. cond b (length t + prefix_len q (drop n d)) (prefix_len q t)) (ne_eqb _ _ (λ (e : prefix_len q t ≡ length t). omega (arith, all_pass t e)))
      ∙ same_run t ∙ sym (trailing_mask_l (λ x. not (q x)) 64 t (omega (arith, length-take-le n d room)) some)

  -- the mask of bytes with others behind them tells their run
  pub run_within : (s t : List ℕ) → length s ≤ 16 → length t ≤ 16 → min (length s) (count_trailing_zeros 64 (mask_l (map (λ x. not (q x)) (s ++ t)))) ≡ prefix_len q s
  run_within s t few more =
      let both = length-append s t in
      let room : length (s ++ t) ≤ 64 = omega arith in
      let mask = mask_l (map (λ x. not (q x)) (s ++ t)) in
      lower (eqb mask 0) (eqb (prefix_len q s) (length s)) (length s) (length (s ++ t)) (prefix_len q s) (prefix_len q t) (count_trailing_zeros 64 mask)
      (first_set_mask_l (λ x. not (q x)) (s ++ t) (length (s ++ t)) refl room ∙ (sym (same_run (s ++ t)) ∙ prefix_len-append q s t)) (λ e. ap (count_trailing_zeros 64) (eqb-true mask 0 e) ∙ no_bit) (λ e. eqb-true (prefix_len q s) (length s) e)
      (prefix_len-le-length q s) (omega arith) room
