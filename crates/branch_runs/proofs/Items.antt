-- An item is among the items of some texts where one of the texts has it.
use Rattle.std.proofs.Common.{◌≡◌, ◌∙◌, ℕ, ◌+◌, ◌-◌, ◌<◌, ◌≤◌, inl, inr, List, [], ◌∷◌, sym, subst, arith}
use Rattle.std.specs.List.{range_with_len, Contains}
use Rattle.std.proofs.lemmas.List.Elements.{Contains-append_left, Contains-append_right, Contains-append_cases}
use Rattle.std.proofs.lemmas.List.FromFn.{length-range_with_len, get_or-range_with_len}
use Rattle.branch_runs.specs.Runs.{ids_of}
use Rattle.branch_runs.proofs.Cover.{AnyHas}

pub row_has : (a n i : ℕ) → a ≤ i → i < a + n → Contains (range_with_len a n) i
row_has a n i low high =
    (i - a, rw (length-range_with_len a n) (omega arith), get_or-range_with_len a n (i - a) i (omega arith) ∙ omega arith)

pub has_item-range : (a n i : ℕ) → Contains (range_with_len a n) i → (a ≤ i) × (i < a + n)
has_item-range a n i (k, below, is) =
    let short : k < n = subst (λ m. k < m) (length-range_with_len a n) below in
    let e : a + k ≡ i = sym (get_or-range_with_len a n k i short) ∙ is in
    (omega arith, omega arith)

pub AnyHas-items : (stretches : List (ℕ × ℕ)) (i : ℕ) → AnyHas stretches i → Contains (ids_of stretches) i
AnyHas-items [] i h = absurd h
AnyHas-items (stretch ∷ stretches) i (inl h) =
    Contains-append_left (range_with_len stretch.0 (stretch.1 - stretch.0)) (ids_of stretches) i
    (row_has stretch.0 (stretch.1 - stretch.0) i h.0 (omega (arith, h.0, h.1)))
AnyHas-items (stretch ∷ stretches) i (inr h) =
    Contains-append_right (range_with_len stretch.0 (stretch.1 - stretch.0)) (ids_of stretches) i (AnyHas-items stretches i h)

no-items : (i : ℕ) → Contains (ids_of []) i → ⊥
no-items i (k, below, is) = omega (arith, below)

pub items-AnyHas : (stretches : List (ℕ × ℕ)) (i : ℕ) → Contains (ids_of stretches) i → AnyHas stretches i
items-AnyHas [] i h = no-items i h
items-AnyHas (stretch ∷ stretches) i h =
    elim (Contains-append_cases (range_with_len stretch.0 (stretch.1 - stretch.0)) (ids_of stretches) i h) [
      | inl a ↦ let b = has_item-range stretch.0 (stretch.1 - stretch.0) i a in inl (b.0, omega (arith, b.0, b.1))
      | inr a ↦ inr (items-AnyHas stretches i a)
    ]
