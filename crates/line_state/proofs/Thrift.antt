-- Choices that cost nothing, and break only where no other choice may be made, are the least.
use Rattle.std.proofs.Common.{◌≡◌, ℕ, Bool, true, false, List, [], ◌∷◌, ◌++◌, length, refl, arith, sym, ◌∙◌, subst}
use Rattle.line_state.specs.Choices.{Leads, IsNotAfter, IsLeast}

-- a break is made only where the gap can't stay
abbrev pub IsNeeded : {S : Type 0} → (S → Bool → S → ℕ → Type 0) → S → Bool → Type 0
IsNeeded step s false = Unit {0}
IsNeeded {S} step s true = (m : S) (k : ℕ) → step s false m k → ⊥

-- the choices lead from one layout to another at no cost, and each break is needed
abbrev pub IsThrifty : {S : Type 0} → (S → Bool → S → ℕ → Type 0) → S → List Bool → S → Type 0
IsThrifty step s [] t = t ≡ s
IsThrifty {S} step s (b ∷ bs) t = (m : S) × step s b m 0 × IsNeeded step s b × IsThrifty step m bs t

-- one choice more
pub thrifty_more : {S : Type 0} (step : S → Bool → S → ℕ → Type 0) (s m t : S) (bs : List Bool) (b : Bool) → IsThrifty step s bs m → step m b t 0 → IsNeeded step m b → IsThrifty step s (bs ++ b ∷ []) t
thrifty_more step s m t [] b h go need = (t, subst (λ x. step x b t 0) h go, subst (λ x. IsNeeded step x b) h need, refl)
thrifty_more step s m t (c ∷ bs) b h go need = (h.0, h.1, h.2, thrifty_more step h.0 m t bs b h.3 go need)

leads_at_no_cost : {S : Type 0} (step : S → Bool → S → ℕ → Type 0) (s t : S) (bs : List Bool) → IsThrifty step s bs t → Leads step s bs t 0
leads_at_no_cost step s t [] h = (h, refl)
leads_at_no_cost step s t (b ∷ bs) h = (h.0, 0, 0, h.1, leads_at_no_cost step h.0 t bs h.3, omega arith)

first_of_all : {S : Type 0} (step : S → Bool → S → ℕ → Type 0) → ((s : S) (b : Bool) (t u : S) (k l : ℕ) → step s b t k → step s b u l → (t ≡ u) × (k ≡ l)) →
    (s t u : S) (c : ℕ) (bs other : List Bool) → length bs ≡ length other → IsThrifty step s bs t → Leads step s other u c → IsNotAfter bs other
first_of_all step functional s t u c [] other e h l = tt
first_of_all step functional s t u c (b ∷ bs) [] e h l = absurd (omega arith)
first_of_all step functional s t u c (false ∷ bs) (true ∷ other) e h l = tt
first_of_all step functional s t u c (true ∷ bs) (false ∷ other) e h l = h.2 l.0 l.1 l.3
first_of_all step functional s t u c (false ∷ bs) (false ∷ other) e h l =
    let same = (functional s false h.0 l.0 0 l.1 h.1 l.3).0 in
    first_of_all step functional h.0 t u l.2 bs other (omega arith) h.3 (subst (λ x. Leads step x other u l.2) (sym same) l.4)
first_of_all step functional s t u c (true ∷ bs) (true ∷ other) e h l =
    let same = (functional s true h.0 l.0 0 l.1 h.1 l.3).0 in
    first_of_all step functional h.0 t u l.2 bs other (omega arith) h.3 (subst (λ x. Leads step x other u l.2) (sym same) l.4)

-- they cost no more than any others, and come before them
pub thrifty_least : {S : Type 0} (step : S → Bool → S → ℕ → Type 0) → ((s : S) (b : Bool) (t u : S) (k l : ℕ) → step s b t k → step s b u l → (t ≡ u) × (k ≡ l)) →
    (s t : S) (n : ℕ) (bs : List Bool) → length bs ≡ n → IsThrifty step s bs t → IsLeast step s n bs 0
thrifty_least step functional s t n bs len h = record {
  reaches = (t, leads_at_no_cost step s t bs h);
  count = len;
  least = λ other u c e l. omega arith;
  first = λ other u e l. first_of_all step functional s t u 0 bs other (len ∙ sym e) h l;
}
