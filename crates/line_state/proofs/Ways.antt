-- Choices with the last one first: what they reach, and their rank, which compares lists of one length from the left.
use Rattle.std.proofs.Common.{◌≡◌, ℕ, ◌+◌, ◌*◌, ◌≤◌, ◌<◌, Bool, true, false, List, [], ◌∷◌, ◌++◌, length, refl, arith, sym, subst}
use Rattle.line_state.specs.Choices.{Leads, IsNotAfter}

abbrev pub bit : Bool → ℕ
bit false = 0
bit true = 1

-- of lists of one length, the one of lower rank comes first from the left
abbrev pub rank : List Bool → ℕ
rank [] = 0
rank (b ∷ r) = 2 * rank r + bit b

-- as `Leads`, with the last choice first
abbrev pub Reached : {S : Type 0} → (S → Bool → S → ℕ → Type 0) → S → List Bool → S → ℕ → Type 0
Reached step s [] t c = (t ≡ s) × (c ≡ 0)
Reached {S} step s (b ∷ r) t c = (m : S) × (d : ℕ) × (k : ℕ) × Reached step s r m d × step m b t k × (c ≡ d + k)

-- the cost c with the rank p is no worse than the cost d with the rank q
pub record AtMost (c p d q : ℕ) : Type 0 where
  pub cost : c ≤ d
  pub tie : c ≡ d → p ≤ q

pub AtMost-refl : (c p : ℕ) → AtMost c p c p
AtMost-refl c p = record { cost = omega arith; tie = λ _. omega arith }

pub AtMost-trans : (c p d q e r : ℕ) → AtMost c p d q → AtMost d q e r → AtMost c p e r
AtMost-trans c p d q e r h j = record {
  cost = omega (arith, h.cost, j.cost);
  tie = λ same.
      let one : c ≡ d = omega (arith, h.cost, j.cost) in
      let two : d ≡ e = omega (arith, h.cost, j.cost) in
      omega (arith, h.tie one, j.tie two);
}

-- one more step keeps the order, where the better one takes it at no greater cost
pub AtMost-step : (c p d q k l b : ℕ) → AtMost c p d q → l ≤ k → AtMost (c + l) (2 * p + b) (d + k) (2 * q + b)
AtMost-step c p d q k l b h cheap = record {
  cost = omega (arith, h.cost, cheap);
  tie = λ same.
      let one : c ≡ d = omega (arith, h.cost, cheap) in
      omega (arith, h.tie one);
}

-- the first list turned round, and put on the second
abbrev pub onto : List Bool → List Bool → List Bool
onto [] r = r
onto (b ∷ bs) r = onto bs (b ∷ r)

pub length-onto : (bs r : List Bool) → length (onto bs r) ≡ length bs + length r
length-onto [] r = omega arith
length-onto (b ∷ bs) r = omega (arith, length-onto bs (b ∷ r))

-- the last choice first, and from the left
pub Reached-onto : {S : Type 0} (step : S → Bool → S → ℕ → Type 0) (root : S) (s t : S) (c d : ℕ) (r bs : List Bool) → Reached step root r s c → Leads step s bs t d → Reached step root (onto bs r) t (c + d)
Reached-onto step root s t c d r [] h l = let e : c + d ≡ c = omega (arith, l.1) in
    subst (λ (x : ℕ). Reached step root r t x) (sym e) (subst (λ x. Reached step root r x c) (sym l.0) h)
Reached-onto step root s t c d r (b ∷ bs) h l =
    let e : (c + l.1) + l.2 ≡ c + d = omega (arith, l.5) in
    subst (λ (x : ℕ). Reached step root (onto bs (b ∷ r)) t x) e (Reached-onto step root l.0 t (c + l.1) l.2 (b ∷ r) bs (s, c, l.1, h, l.3, refl) l.4)

pub Leads-onto : {S : Type 0} (step : S → Bool → S → ℕ → Type 0) (root : S) (s t : S) (c d : ℕ) (r bs : List Bool) → Reached step root r s c → Leads step s bs t d → Leads step root (onto r bs) t (c + d)
Leads-onto step root s t c d [] bs h l = let e : c + d ≡ d = omega (arith, h.1) in
    subst (λ (x : ℕ). Leads step root bs t x) (sym e) (subst (λ x. Leads step x bs t d) h.0 l)
Leads-onto step root s t c d (b ∷ r) bs h l =
    let e : h.1 + (h.2 + d) ≡ c + d = omega (arith, h.5) in
    subst (λ (x : ℕ). Leads step root (onto r (b ∷ bs)) t x) e (Leads-onto step root h.0 t h.1 (h.2 + d) r (b ∷ bs) h.3 (s, h.2, d, h.4, l, refl))

pub rank-onto : (xs ys r q : List Bool) → length xs ≡ length ys → rank r < rank q → rank (onto xs r) < rank (onto ys q)
rank-onto [] [] r q e h = h
rank-onto [] (y ∷ ys) r q e h = absurd (omega arith)
rank-onto (x ∷ xs) [] r q e h = absurd (omega arith)
rank-onto (false ∷ xs) (false ∷ ys) r q e h = rank-onto xs ys (false ∷ r) (false ∷ q) (omega arith) (omega arith)
rank-onto (false ∷ xs) (true ∷ ys) r q e h = rank-onto xs ys (false ∷ r) (true ∷ q) (omega arith) (omega arith)
rank-onto (true ∷ xs) (false ∷ ys) r q e h = rank-onto xs ys (true ∷ r) (false ∷ q) (omega arith) (omega arith)
rank-onto (true ∷ xs) (true ∷ ys) r q e h = rank-onto xs ys (true ∷ r) (true ∷ q) (omega arith) (omega arith)

-- the order by rank is that from the left
pub IsNotAfter-rank : (xs ys r q : List Bool) → length xs ≡ length ys → rank r ≡ rank q → rank (onto xs r) ≤ rank (onto ys q) → IsNotAfter xs ys
IsNotAfter-rank [] ys r q e same h = tt
IsNotAfter-rank (x ∷ xs) [] r q e same h = absurd (omega arith)
IsNotAfter-rank (false ∷ xs) (false ∷ ys) r q e same h = IsNotAfter-rank xs ys (false ∷ r) (false ∷ q) (omega arith) (omega arith) h
IsNotAfter-rank (true ∷ xs) (true ∷ ys) r q e same h = IsNotAfter-rank xs ys (true ∷ r) (true ∷ q) (omega arith) (omega arith) h
IsNotAfter-rank (false ∷ xs) (true ∷ ys) r q e same h = tt
IsNotAfter-rank (true ∷ xs) (false ∷ ys) r q e same h =
    let even : length ys ≡ length xs = omega arith in
    let up : rank (false ∷ q) < rank (true ∷ r) = omega arith in
    absurd (omega (arith, rank-onto ys xs (false ∷ q) (true ∷ r) even up, h))

pub onto-onto : (xs ys zs : List Bool) → onto (onto xs ys) zs ≡ onto ys (xs ++ zs)
onto-onto [] ys zs = refl
onto-onto (x ∷ xs) ys zs = onto-onto xs (x ∷ ys) zs
