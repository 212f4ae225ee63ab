-- Layouts from which whatever choices go on from others go on too, step by step at no greater cost.
use Rattle.std.proofs.Common.{◌≡◌, ℕ, ◌≤◌, Bool, List, [], ◌∷◌, arith, subst}

-- a choice leads to one layout, at one cost
abbrev pub IsFunctional : {S : Type 0} → (S → Bool → S → ℕ → Type 0) → Type 0
IsFunctional {S} step = (s : S) (b : Bool) (t u : S) (k l : ℕ) → step s b t k → step s b u l → (t ≡ u) × (k ≡ l)

-- the choices that may be made in s may be made in t, each at no greater cost; behind them t has no greater bound than s
abbrev pub GoesAsWell : {S : Type 0} → (S → Bool → S → ℕ → Type 0) → (S → ℕ) → List Bool → S → S → Type 0
GoesAsWell step low [] t s = low t ≤ low s
GoesAsWell {S} step low (b ∷ bs) t s = (next : S) (k : ℕ) → step s b next k → (other : S) × (l : ℕ) × step t b other l × (l ≤ k) × GoesAsWell step low bs other next

-- the layout t dominates s
pub record Dominates {S : Type 0} (step : S → Bool → S → ℕ → Type 0) (low : S → ℕ) (t s : S) : Type 0 where
  pub goes : (bs : List Bool) → GoesAsWell step low bs t s

pub goes_itself : {S : Type 0} (step : S → Bool → S → ℕ → Type 0) (low : S → ℕ) (s : S) (bs : List Bool) → GoesAsWell step low bs s s
goes_itself step low s [] = omega arith
goes_itself step low s (b ∷ bs) = λ next k go. (next, k, go, omega arith, goes_itself step low next bs)

pub dominates_itself : {S : Type 0} (step : S → Bool → S → ℕ → Type 0) (low : S → ℕ) (s : S) → Dominates step low s s
dominates_itself step low s = record { goes = goes_itself step low s }

pub goes_over : {S : Type 0} (step : S → Bool → S → ℕ → Type 0) (low : S → ℕ) (t u s : S) (bs : List Bool) → GoesAsWell step low bs t u → GoesAsWell step low bs u s → GoesAsWell step low bs t s
goes_over step low t u s [] h g = omega (arith, h, g)
goes_over step low t u s (b ∷ bs) h g = λ next k go.
    let one = g next k go in
    let two = h one.0 one.1 one.2 in
    (two.0, two.1, two.2, omega (arith, one.3, two.3), goes_over step low two.0 one.0 next bs two.4 one.4)

pub dominates_over : {S : Type 0} (step : S → Bool → S → ℕ → Type 0) (low : S → ℕ) (t u s : S) → Dominates step low t u → Dominates step low u s → Dominates step low t s
dominates_over step low t u s h g = record { goes = λ bs. goes_over step low t u s bs (h.goes bs) (g.goes bs) }

-- where a choice leads from the dominated layout, the dominating one leads to one that dominates that
pub record StepsOver {S : Type 0} (step : S → Bool → S → ℕ → Type 0) (low : S → ℕ) (t : S) (b : Bool) (next : S) (k : ℕ) : Type 0 where
  pub other : S
  pub cost : ℕ
  pub go : step t b other cost
  pub cheap : cost ≤ k
  pub over : Dominates step low other next

pub steps_over : {S : Type 0} (step : S → Bool → S → ℕ → Type 0) (low : S → ℕ) → IsFunctional step →
    (t s next : S) (b : Bool) (k : ℕ) → Dominates step low t s → step s b next k → StepsOver step low t b next k
steps_over step low functional t s next b k d go =
    let h = d.goes (b ∷ []) next k go in record {
      other = h.0;
      cost = h.1;
      go = h.2;
      cheap = h.3;
      over = record { goes = λ bs. (let g = d.goes (b ∷ bs) next k go in subst (λ x. GoesAsWell step low bs x next) (functional t b g.0 h.0 g.1 h.1 g.2 h.2).0 g.4) };
    }
