-- What a run sees is what the texts with their runs say.
use Rattle.std.proofs.Common.{◌≡◌, ◌∙◌, ℕ, ◌+◌, ◌-◌, ◌<◌, ◌≤◌, ◌⊎◌, inl, inr, Bool, true, false, List, [], ◌∷◌, ◌++◌, refl, sym, ap, arith}
use Rattle.std.specs.Prelude.{min, if◌then◌else◌}
use Rattle.std.proofs.lemmas.List.{append-nil}
use Rattle.branch_runs.specs.declared.seen.SeenText.{SeenText}
use Rattle.branch_runs.specs.Tree.{Group, Branches, nothing, text, conditional, none, branch}
use Rattle.branch_runs.specs.Runs.{need, has_live, texts, texts_in, view_of, ids_of}
use Rattle.branch_runs.specs.Seen.{seen_texts, seen_texts_in, is_seen, taken}
use Rattle.branch_runs.proofs.Cover.{texts_in-first, texts_in-later}

pub cases_lt : (i n : ℕ) → (i < n) ⊎ (n ≤ i)
cases_lt i n = grind arith

texts_in-only : (g : Group) (bs : Branches) (r : ℕ) → has_live bs ≡ false → texts_in (branch true g bs) r ≡ texts g r
texts_in-only g bs r live = grind (arith, live)

pub seen_is : (s : SeenText) (r : ℕ) → s.from ≤ r → r < s.till → is_seen s r ≡ true
seen_is s r low high = grind (arith, low, high)

pub unseen_is : (s : SeenText) (r : ℕ) → (r < s.from) ⊎ (s.till ≤ r) → is_seen s r ≡ false
unseen_is s r (inl h) = grind (arith, h)
unseen_is s r (inr h) = grind (arith, h)

taken-by : (c : Bool) (x : ℕ × ℕ) (xs ys : List (ℕ × ℕ)) → (if c then x ∷ (xs ++ ys) else (xs ++ ys)) ≡ (if c then x ∷ xs else xs) ++ ys
taken-by true x xs ys = refl
taken-by false x xs ys = refl

pub taken-append : (xs ys : List SeenText) (r : ℕ) → taken (xs ++ ys) r ≡ taken xs r ++ taken ys r
taken-append [] ys r = refl
taken-append (x ∷ xs) ys r = rw (taken-append xs ys r) (taken-by (is_seen x r) (x.first, x.end) (taken xs r) (taken ys r))

-- the run is none of these
abbrev Outside : ℕ → ℕ → ℕ → Type 0
Outside from till r = (r < from) ⊎ (till ≤ r)

front-outside : (from till n r : ℕ) → Outside from till r → Outside from (min till n) r
front-outside from till n r (inl h) = inl h
front-outside from till n r (inr h) = inr (omega (arith, h))

back-outside : (from till n r : ℕ) → from ≤ n → Outside from till r → Outside (min till n) till r
back-outside from till n r le (inl h) = elim (cases_lt r till) [
  | inl a ↦ inl (omega (arith, a, h, le))
  | inr a ↦ inr a
]
back-outside from till n r le (inr h) = inr h

-- what is taken of two rows of texts, or else of one
two-none : (c : Bool) (xs ys zs : List SeenText) (r : ℕ) → taken xs r ≡ [] → taken ys r ≡ [] → taken zs r ≡ [] → taken (if c then xs ++ ys else zs) r ≡ []
two-none true xs ys zs r x y z = taken-append xs ys r ∙ (rw (x, y) refl)
two-none false xs ys zs r x y z = z

mutual
  unseen : (g : Group) (from till r : ℕ) → Outside from till r → taken (seen_texts g from till) r ≡ []
  unseen nothing from till r out = refl
  unseen (text f e g) from till r out = rw (unseen_is (record { first = f; end = e; from = from; till = till }) r out) (unseen g from till r out)
  unseen (conditional bs g) from till r out =
      taken-append (seen_texts_in bs from till) (seen_texts g from till) r ∙ (rw (unseen_in bs from till r out) (unseen g from till r out))

  unseen_in : (bs : Branches) (from till r : ℕ) → Outside from till r → taken (seen_texts_in bs from till) r ≡ []
  unseen_in none from till r out = refl
  unseen_in (branch false g bs) from till r out = unseen_in bs from till r out
  unseen_in (branch true g bs) from till r out =
      let m = min till (from + need g) in
      two-none (has_live bs) (seen_texts g from m) (seen_texts_in bs m till) (seen_texts g from till) r
      (unseen g from m r (front-outside from till (from + need g) r out))
      (unseen_in bs m till r (back-outside from till (from + need g) r (omega arith) out))
      (unseen g from till r out)

two-some : (c : Bool) (xs ys zs : List SeenText) (r : ℕ) (out : List (ℕ × ℕ)) → (c ≡ true → taken xs r ++ taken ys r ≡ out) → (c ≡ false → taken zs r ≡ out)
    → taken (if c then xs ++ ys else zs) r ≡ out
two-some true xs ys zs r out a b = taken-append xs ys r ∙ a refl
two-some false xs ys zs r out a b = b refl

-- the branch in whose slot the run falls is taken, or those behind it are
one-of : (g : Group) (bs : Branches) (from till r : ℕ) → from ≤ r → r < till → has_live bs ≡ true
    → ((m : ℕ) → r < m → taken (seen_texts g from m) r ≡ texts g (r - from))
    → ((first : ℕ) → first ≤ r → taken (seen_texts_in bs first till) r ≡ texts_in bs (r - first))
    → taken (seen_texts g from (min till (from + need g))) r ++ taken (seen_texts_in bs (min till (from + need g)) till) r ≡ texts_in (branch true g bs) (r - from)
one-of g bs from till r low high live here behind = elim (cases_lt r (from + need g)) [
  | inl a ↦
      let m = min till (from + need g) in
      let in_here : r < m = omega (arith, a, high) in
      rw (here m in_here, unseen_in bs m till r (inl in_here), append-nil (texts g (r - from)))
      (sym (texts_in-first g bs (r - from) (omega (arith, a, low))))
  | inr a ↦
      let m = min till (from + need g) in
      let is : m ≡ from + need g = omega (arith, a, high) in
      let less : r - from - need g ≡ r - (from + need g) = omega arith in
      rw (unseen g from m r (inr (omega (arith, a, high))), is, behind (from + need g) a)
      (ap (texts_in bs) (sym less) ∙ sym (texts_in-later g bs (r - from) (omega (arith, a, low)) live))
]

mutual
  seen : (g : Group) (from till r : ℕ) → from ≤ r → r < till → taken (seen_texts g from till) r ≡ texts g (r - from)
  seen nothing from till r low high = refl
  seen (text f e g) from till r low high = rw (seen_is (record { first = f; end = e; from = from; till = till }) r low high) (ap (λ xs. (f, e) ∷ xs) (seen g from till r low high))
  seen (conditional bs g) from till r low high =
      taken-append (seen_texts_in bs from till) (seen_texts g from till) r ∙ (rw (seen_in bs from till r low high, seen g from till r low high) refl)

  seen_in : (bs : Branches) (from till r : ℕ) → from ≤ r → r < till → taken (seen_texts_in bs from till) r ≡ texts_in bs (r - from)
  seen_in none from till r low high = refl
  seen_in (branch false g bs) from till r low high = seen_in bs from till r low high
  seen_in (branch true g bs) from till r low high =
      let m = min till (from + need g) in
      two-some (has_live bs) (seen_texts g from m) (seen_texts_in bs m till) (seen_texts g from till) r (texts_in (branch true g bs) (r - from))
      (λ live. one-of g bs from till r low high live (λ last below. seen g from last r low below) (λ first from_first. seen_in bs first till r from_first high))
      (λ live. seen g from till r low high ∙ sym (texts_in-only g bs (r - from) live))

-- what a run of a group sees
pub texts_taken : (g : Group) (r : ℕ) → r < need g → taken (seen_texts g 0 (need g)) r ≡ texts g r
texts_taken g r within =
    let e : r - 0 ≡ r = omega arith in
    seen g 0 (need g) r (omega arith) within ∙ ap (texts g) e

-- so it is of the texts that are kept
pub are_texts : (g : Group) (count r : ℕ) (list : List SeenText) → list ≡ seen_texts g 0 count → count ≡ need g → r < need g → taken list r ≡ texts g r
are_texts g count r list are is within = rw (are, is) (texts_taken g r within)

pub view_taken : (g : Group) (r : ℕ) → r < need g → view_of g r ≡ ids_of (taken (seen_texts g 0 (need g)) r)
view_taken g r within = ap ids_of (sym (texts_taken g r within))
