-- Lists of choices over layouts: what a list reaches and at which cost, and which list is the least.
-- `step s b t k` says that in the layout s the choice b may be made, that it leads to the layout t, and that it costs
-- k.
use Rattle.std.specs.Prelude.{◌≡◌, ℕ, ◌+◌, ◌≤◌, Bool, true, false, List, [], ◌∷◌, length}

-- the choices, made in order, lead from one layout to another and cost so much in all
abbrev pub Leads : {S : Type 0} → (S → Bool → S → ℕ → Type 0) → S → List Bool → S → ℕ → Type 0
Leads step s [] t c = (t ≡ s) × (c ≡ 0)
Leads {S} step s (b ∷ bs) t c = (m : S) × (k : ℕ) × (d : ℕ) × step s b m k × Leads step m bs t d × (c ≡ k + d)

-- compared from the left, unbroken before broken, the first list isn't after the second
abbrev pub IsNotAfter : List Bool → List Bool → Type 0
IsNotAfter [] ys = Unit {0}
IsNotAfter (x ∷ xs) [] = ⊥
IsNotAfter (false ∷ xs) (false ∷ ys) = IsNotAfter xs ys
IsNotAfter (true ∷ xs) (true ∷ ys) = IsNotAfter xs ys
IsNotAfter (false ∷ xs) (true ∷ ys) = Unit {0}
IsNotAfter (true ∷ xs) (false ∷ ys) = ⊥

-- the list makes n choices at this cost; none of n choices costs less, and of those that cost the same none is before
-- it
pub record IsLeast {S : Type 0} (step : S → Bool → S → ℕ → Type 0) (s : S) (n : ℕ) (choices : List Bool) (cost : ℕ) :
    Type 0 where
  pub reaches : (t : S) × Leads step s choices t cost
  pub count : length choices ≡ n
  pub least : (other : List Bool) (t : S) (c : ℕ) → length other ≡ n → Leads step s other t c → cost ≤ c
  pub first : (other : List Bool) (t : S) → length other ≡ n → Leads step s other t cost → IsNotAfter choices other
