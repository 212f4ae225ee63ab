-- Lists of characters, apart from any grammar.
use Rattle.std.proofs.Common.{not, false, ◌≡◌, ◌==◌, ◌&&◌, ℕ, suc, Bool, true, List, [], ◌∷◌, ◌++◌, length, refl, sym, arith, inl, inr, ◌⊎◌}
use Rattle.std.specs.List.{list_any, list_all}
use Rattle.std.proofs.lemmas.Bool.{not-true, both_ways, false_from_ne_true, and_parts, or_cases, and_from, eq-eqb, eqb-true, ne_eqb, cases_Bool}
use Rattle.c_grammar.specs.Grammar.{is_same, is_of, joined, AreUnits, is_one}

-- Two ways to cut one list: one front is the other and more.
pub record GoesOn (front rest longer left : List ℕ) : Type 0 where
  pub c : ℕ
  pub more : List ℕ
  pub front_is : longer ≡ front ++ c ∷ more
  pub rest_is : rest ≡ (c ∷ more) ++ left

pub record SameCut (front rest other left : List ℕ) : Type 0 where
  pub front_is : front ≡ other
  pub rest_is : rest ≡ left

pub two_cuts : (a x b y : List ℕ) → a ++ x ≡ b ++ y → SameCut a x b y ⊎ (GoesOn a x b y ⊎ GoesOn b y a x)
two_cuts [] x [] y e = inl (record { front_is = refl; rest_is = e })
two_cuts [] x (c ∷ b) y e = inr (inl (record { c = c; more = b; front_is = refl; rest_is = e }))
two_cuts (c ∷ a) x [] y e = inr (inr (record { c = c; more = a; front_is = refl; rest_is = sym e }))
two_cuts (c ∷ a) x (d ∷ b) y e =
    let heads : c ≡ d = cc in
    let tails : a ++ x ≡ b ++ y = cc in
    elim (two_cuts a x b y tails) [
      | inl s ↦ let f = s.front_is in inl (record { front_is = cc; rest_is = s.rest_is })
      | inr more ↦ elim more [
        | inl g ↦ let f = g.front_is in inr (inl (record { c = g.c; more = g.more; front_is = cc; rest_is = g.rest_is }))
        | inr g ↦ let f = g.front_is in inr (inr (record { c = g.c; more = g.more; front_is = cc; rest_is = g.rest_is }))
      ]
    ]

-- tests of lists

pub same_is : (s t : List ℕ) → is_same s t ≡ true → s ≡ t
same_is [] [] h = refl
same_is [] (y ∷ ys) h = cc
same_is (x ∷ xs) [] h = cc
same_is (x ∷ xs) (y ∷ ys) h =
    let parts = and_parts (x == y) (is_same xs ys) h in
    let heads : x ≡ y = eqb-true x y parts.0 in
    let tails : xs ≡ ys = same_is xs ys parts.1 in
    cc

pub same_refl : (s : List ℕ) → is_same s s ≡ true
same_refl [] = refl
same_refl (x ∷ xs) = and_from (x == x) (is_same xs xs) (eq-eqb x x refl) (same_refl xs)

-- what each entry of a table passes, what passes as one of its entries passes
pub in_table : (q : List ℕ → Bool) (table : List (List ℕ)) → list_all q table ≡ true → (s : List ℕ) → list_any (is_same s) table ≡ true → q s ≡ true
in_table q [] h s e = cc
in_table q (t ∷ ts) h s e =
    let parts = and_parts (q t) (list_all q ts) h in
    elim (or_cases (is_same s t) (list_any (is_same s) ts) e) [
      | inl here ↦ let is : s ≡ t = same_is s t here in rw is parts.0
      | inr later ↦ in_table q ts parts.1 s later
    ]

pub of_table : (q : ℕ → Bool) (cs : List ℕ) → list_all q cs ≡ true → (c : ℕ) → is_of cs c ≡ true → q c ≡ true
of_table q [] h c e = cc
of_table q (t ∷ ts) h c e =
    let parts = and_parts (q t) (list_all q ts) h in
    elim (or_cases (t == c) (is_of ts c) e) [
      | inl here ↦ let is : t ≡ c = eqb-true t c here in rw (← is) parts.0
      | inr later ↦ of_table q ts parts.1 c later
    ]

pub all_append : (p : ℕ → Bool) (s t : List ℕ) → list_all p (s ++ t) ≡ (list_all p s && list_all p t)
all_append p [] t = refl
all_append p (x ∷ s) t = let h = all_append p s t in elim (cases_Bool (p x)) [ inl e ↦ rw e h | inr e ↦ rw e refl ]

-- the characters of units, where each unit's characters pass
pub joined_all : (p : List ℕ → Bool) (q : ℕ → Bool) → ((u : List ℕ) → p u ≡ true → list_all q u ≡ true) → (us : List (List ℕ)) → list_all p us ≡ true → list_all q (joined us) ≡ true
joined_all p q f [] h = refl
joined_all p q f (u ∷ us) h =
    let parts = and_parts (p u) (list_all p us) h in
    rw all_append (and_from (list_all q u) (list_all q (joined us)) (f u parts.0) (joined_all p q f us parts.1))

pub units_all : (p : List ℕ → Bool) (q : ℕ → Bool) → ((u : List ℕ) → p u ≡ true → list_all q u ≡ true) → (s : List ℕ) → AreUnits p s → list_all q s ≡ true
units_all p q f s h = let w = h.whole in rw w (joined_all p q f h.units h.each)

pub one_all : (p q : ℕ → Bool) → ((c : ℕ) → p c ≡ true → q c ≡ true) → (u : List ℕ) → is_one p u ≡ true → list_all q u ≡ true
one_all p q f [] h = refl
one_all p q f (c ∷ []) h = and_from (q c) true (f c h) refl
one_all p q f (c ∷ d ∷ s) h = cc

pub all_weaken : (p q : ℕ → Bool) → ((c : ℕ) → p c ≡ true → q c ≡ true) → (s : List ℕ) → list_all p s ≡ true → list_all q s ≡ true
all_weaken p q f [] h = refl
all_weaken p q f (c ∷ s) h =
    let parts = and_parts (p c) (list_all p s) h in
    and_from (q c) (list_all q s) (f c parts.0) (all_weaken p q f s parts.1)

pub not_of : (p : ℕ → Bool) (cs : List ℕ) → list_all (λ x. not (p x)) cs ≡ true → (c : ℕ) → is_of cs c ≡ true → p c ≡ false
not_of p cs h c e = not-true (p c) (of_table (λ x. not (p x)) cs h c e)

-- what isn't p, where what passes p isn't in the table
pub none_of : (p : ℕ → Bool) (cs : List ℕ) → list_all (λ x. not (p x)) cs ≡ true → (c : ℕ) → p c ≡ true → is_of cs c ≡ false
none_of p cs h c e = false_from_ne_true (is_of cs c) (λ i. both_ways (p c) (not_of p cs h c i) e)

-- the character in the middle
pub passes_at : (p : ℕ → Bool) (s : List ℕ) (c : ℕ) (t : List ℕ) → list_all p (s ++ c ∷ t) ≡ true → p c ≡ true
passes_at p s c t h =
    let both : (list_all p s && list_all p (c ∷ t)) ≡ true = rw all_append at h in
    (and_parts (p c) (list_all p t) (and_parts (list_all p s) (list_all p (c ∷ t)) both).1).0

-- a length of none
pub length_none : (g : List ℕ) → (length g == 0) ≡ is_same g []
length_none [] = refl
length_none (c ∷ g) = ne_eqb (suc (length g)) 0 (λ e. omega arith)
