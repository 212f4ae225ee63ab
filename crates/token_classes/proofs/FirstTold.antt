-- How many classes come before the first that tells something, where lanes tell which do.
use Rattle.std.proofs.Common.{◌≡◌, ◌∙◌, ℕ, ◌+◌, ◌%◌, ◌^◌, ◌<◌, ◌≤◌, Bool, true, false, not, cond, eqb, List, [], ◌∷◌, map, length, get_or, take, refl, sym, ap, ap₂, arith}
use Rattle.std.proofs.lemmas.Bool.{agree_below, agree_below_at, ne_eqb}
use Rattle.std.proofs.lemmas.Simd.{first_set_mask_l, mask_l-mod}
use Rattle.std.proofs.lemmas.List.{get_or-take, length-map, length-take-le}
use Rattle.std.proofs.lemmas.List.Sums.{prefix_len-le-length, prefix_len_passes}
use Rattle.std.specs.List.{prefix_len}
use lib.Lanes.{mask_l, top}
use lib.Count.{count_trailing_zeros}
use Rattle.token_classes.specs.declared.class.TokenClass.{TokenClass}
use Rattle.token_classes.specs.declared.class.TokenClass.TheVariants.{If}
use Rattle.token_classes.specs.Lanes.{number_of}

number_low : (class : TokenClass) → number_of class < 256
number_low If = omega arith
number_low _ = omega arith

module _ (p : TokenClass → Bool) where
  not-not : (b : Bool) → not (not b) ≡ b
  not-not true = refl
  not-not false = refl

  same_run : (classes : List TokenClass) → prefix_len (λ class. not (not (p class))) classes ≡ prefix_len p classes
  same_run [] = refl
  same_run (class ∷ classes) = ap₂ (λ b n. cond b (1 + n) 0) (not-not (p class)) (same_run classes)

  each : (f : ℕ → ℕ) (q : ℕ → Bool) → agree_below (λ x. top 7 (f x)) q 256 ≡ true → ((class : TokenClass) → q (number_of class) ≡ not (p class)) → (classes : List TokenClass) → map (top 7) (map f (map number_of classes)) ≡ map (λ class. not (p class)) classes
  each f q agree of [] = refl
  each f q agree of (class ∷ classes) =
      ap₂ (λ (b : Bool) (bs : List Bool). b ∷ bs) (agree_below_at (λ x. top 7 (f x)) q 256 (number_of class) agree (number_low class) ∙ of class) (each f q agree of classes)

  first_told : (f : ℕ → ℕ) (q : ℕ → Bool) (classes : List TokenClass) (v z : List ℕ) → length classes ≡ 16 → v ≡ map number_of classes → z ≡ map f v → agree_below (λ x. top 7 (f x)) q 256 ≡ true → ((class : TokenClass) → q (number_of class) ≡ not (p class))
      → cond (eqb (mask_l (map (top 7) z) % 2 ^ 64) 0) 16 (count_trailing_zeros 64 (mask_l (map (top 7) z) % 2 ^ 64)) ≡ prefix_len p classes
  first_told f q classes v z long at is agree of =
      let flip = λ (class : TokenClass). not (p class) in
      let mask : mask_l (map (top 7) z) % 2 ^ 64 ≡ mask_l (map flip classes) =
      ap (λ l. mask_l l % 2 ^ 64) (ap (map (top 7)) (is ∙ ap (map f) at) ∙ each f q agree of classes) ∙ mask_l-mod (map flip classes) 64 (omega (arith, length-map classes flip, long)) in
      ap (λ m. cond (eqb m 0) 16 (count_trailing_zeros 64 m)) mask ∙ (first_set_mask_l flip classes 16 long (omega arith) ∙ same_run classes)

  -- where none of sixteen tells something
  pub none_told : (f : ℕ → ℕ) (q : ℕ → Bool) (classes : List TokenClass) (v z : List ℕ) → length classes ≡ 16 → v ≡ map number_of classes → z ≡ map f v → agree_below (λ x. top 7 (f x)) q 256 ≡ true → ((class : TokenClass) → q (number_of class) ≡ not (p class))
      → mask_l (map (top 7) z) % 2 ^ 64 ≡ 0 → 16 ≡ prefix_len p classes
  none_told f q classes v z long at is agree of none =
      ap (λ m. cond (eqb m 0) 16 (count_trailing_zeros 64 m)) (sym none) ∙ first_told f q classes v z long at is agree of

  -- where one of sixteen does
  pub some_told : (f : ℕ → ℕ) (q : ℕ → Bool) (classes : List TokenClass) (v z : List ℕ) → length classes ≡ 16 → v ≡ map number_of classes → z ≡ map f v → agree_below (λ x. top 7 (f x)) q 256 ≡ true → ((class : TokenClass) → q (number_of class) ≡ not (p class))
      → 0 < mask_l (map (top 7) z) % 2 ^ 64 → count_trailing_zeros 64 (mask_l (map (top 7) z) % 2 ^ 64) ≡ prefix_len p classes
  some_told f q classes v z long at is agree of some =
      let told = mask_l (map (top 7) z) % 2 ^ 64 in
      ap (λ b. cond b 16 (count_trailing_zeros 64 told)) (sym (ne_eqb told 0 (λ (e : told ≡ 0). omega (arith, some, e)))) ∙ first_told f q classes v z long at is agree of

  -- the tokens before the first of sixteen that tells something
  pub first_pass : (classes sixteen : List TokenClass) (count : ℕ) → sixteen ≡ take 16 classes → 16 ≤ length classes → count ≡ prefix_len p sixteen → (k : ℕ) → (d : TokenClass) → k < count → p (get_or classes k d) ≡ true
  first_pass classes sixteen count first many told k d below =
      let all = take 16 classes in
      let is : count ≡ prefix_len p all = told ∙ ap (λ (cs : List TokenClass). prefix_len p cs) first in
      let few = prefix_len-le-length p all in
      let long = length-take-le 16 classes many in
      ap (λ (class : TokenClass). p class) (sym (get_or-take 16 classes k d (omega (arith, is, few, long, below)))) ∙ prefix_len_passes p all k d (omega (arith, is, below))

  pub first_few : (classes sixteen : List TokenClass) (count : ℕ) → sixteen ≡ take 16 classes → 16 ≤ length classes → count ≡ prefix_len p sixteen → count ≤ 16
  first_few classes sixteen count first many told =
      let few = prefix_len-le-length p (take 16 classes) in
      let is : count ≡ prefix_len p (take 16 classes) = told ∙ ap (λ (cs : List TokenClass). prefix_len p cs) first in
      omega (arith, is, few, length-take-le 16 classes many)
