-- The items from one to before another of a view, whose items increase, stand one behind another in it.
use Rattle.std.proofs.Common.{◌≡◌, ◌∙◌, inl, inr, ℕ, zero, suc, ◌+◌, ◌<◌, ◌≤◌, Bool, true, false, nat_le, nat_lt, ◌&&◌}
use Rattle.std.proofs.Common.{List, [], ◌∷◌, ◌++◌, length, get_or, take, drop, refl, sym, ap, subst, arith}
use Rattle.std.specs.Prelude.{if◌then◌else◌}
use Rattle.std.proofs.lemmas.Bool.{lt-ltb, le-ltb, le-leb, lt-leb}
use Rattle.token_arena.specs.Ids.{Increase, IncreaseFrom}
use Rattle.branch_runs.specs.Anew.{items_between}
use Rattle.run_parts.proofs.Parts.{before_or_behind}

-- the items from one on
abbrev pub items_from : ℕ → List ℕ → List ℕ
items_from first [] = []
items_from first (id ∷ ids) = if nat_le first id then id ∷ items_from first ids else items_from first ids

-- ## One item

pub between_in : (first end id : ℕ) (ids : List ℕ) → first ≤ id → id < end → items_between first end (id ∷ ids) ≡ id ∷ items_between first end ids
between_in first end id ids low high =
    ap (λ (b : Bool). if b && nat_lt id end then id ∷ items_between first end ids else items_between first end ids) (le-leb first id low)
    ∙ ap (λ (b : Bool). if b then id ∷ items_between first end ids else items_between first end ids) (lt-ltb id end high)

between_before : (first end id : ℕ) (ids : List ℕ) → id < first → items_between first end (id ∷ ids) ≡ items_between first end ids
between_before first end id ids low = ap (λ (b : Bool). if b && nat_lt id end then id ∷ items_between first end ids else items_between first end ids) (lt-leb first id low)

between_behind : (first end id : ℕ) (ids : List ℕ) → end ≤ id → items_between first end (id ∷ ids) ≡ items_between first end ids
between_behind first end id ids high = ap (λ (b : Bool). if nat_le first id && b then id ∷ items_between first end ids else items_between first end ids) (le-ltb id end high) ∙ out (nat_le first id)
  where
    out : (b : Bool) → (if b && false then id ∷ items_between first end ids else items_between first end ids) ≡ items_between first end ids
    out true = refl
    out false = refl

from_in : (first id : ℕ) (ids : List ℕ) → first ≤ id → items_from first (id ∷ ids) ≡ id ∷ items_from first ids
from_in first id ids low = ap (λ (b : Bool). if b then id ∷ items_from first ids else items_from first ids) (le-leb first id low)

pub from_before : (first id : ℕ) (ids : List ℕ) → id < first → items_from first (id ∷ ids) ≡ items_from first ids
from_before first id ids low = ap (λ (b : Bool). if b then id ∷ items_from first ids else items_from first ids) (lt-leb first id low)

-- ## All items

pub none_between : (low first end : ℕ) (ids : List ℕ) → IncreaseFrom low ids → end ≤ low → items_between first end ids ≡ []
none_between low first end [] increase past = refl
none_between low first end (id ∷ ids) increase past =
    between_behind first end id ids (omega (arith, increase.0, past)) ∙ none_between (id + 1) first end ids increase.1 (omega (arith, increase.0, past))

-- no item stands before the first one
pub none_first : (ids : List ℕ) → items_between 0 0 ids ≡ []
none_first [] = refl
none_first (id ∷ ids) = between_behind 0 0 id ids (omega arith) ∙ none_first ids

all_from : (low first : ℕ) (ids : List ℕ) → IncreaseFrom low ids → first ≤ low → items_from first ids ≡ ids
all_from low first [] increase below = refl
all_from low first (id ∷ ids) increase below =
    from_in first id ids (omega (arith, increase.0, below)) ∙ ap (λ (xs : List ℕ). id ∷ xs) (all_from (id + 1) first ids increase.1 (omega (arith, increase.0, below)))

from_cut : (low first end : ℕ) (ids : List ℕ) → IncreaseFrom low ids → first ≤ end → items_from first ids ≡ items_between first end ids ++ items_from end ids
from_cut low first end [] increase order = refl
from_cut low first end (id ∷ ids) increase order =
    elim (before_or_behind id first) [
      | inl before ↦
          let rest = from_cut (id + 1) first end ids increase.1 order in
          from_before first id ids before ∙ (rest ∙ sym (ap (λ (xs : List ℕ). xs ++ items_from end (id ∷ ids)) (between_before first end id ids before)
          ∙ ap (λ (xs : List ℕ). items_between first end ids ++ xs) (from_before end id ids (omega (arith, before, order)))))
      | inr low_is ↦ elim (before_or_behind id end) [
        | inl inside ↦
            let rest = from_cut (id + 1) first end ids increase.1 order in
            from_in first id ids low_is ∙ (ap (λ (xs : List ℕ). id ∷ xs) rest ∙ sym (ap (λ (xs : List ℕ). xs ++ items_from end (id ∷ ids)) (between_in first end id ids low_is inside)
            ∙ ap (λ (xs : List ℕ). (id ∷ items_between first end ids) ++ xs) (from_before end id ids inside)))
        | inr past ↦
            let here : IncreaseFrom id (id ∷ ids) = (omega arith, increase.1) in
            all_from id first (id ∷ ids) here low_is ∙ sym (ap (λ (xs : List ℕ). xs ++ items_from end (id ∷ ids)) (none_between id first end (id ∷ ids) here past) ∙ all_from id end (id ∷ ids) here past)
      ]
    ]

-- a view goes on behind its items before one
pub view_cut : (end : ℕ) (ids : List ℕ) → Increase ids → ids ≡ items_between 0 end ids ++ items_from end ids
view_cut end ids increase = sym (all_from 0 0 ids increase (omega arith)) ∙ from_cut 0 0 end ids increase (omega arith)

-- it has a window of its items behind those before the window
pub window_cut : (first end : ℕ) (ids : List ℕ) → Increase ids → first ≤ end → ids ≡ items_between 0 first ids ++ (items_between first end ids ++ items_from end ids)
window_cut first end ids increase order = view_cut first ids increase ∙ ap (λ (xs : List ℕ). items_between 0 first ids ++ xs) (from_cut 0 first end ids increase order)

-- its items before one go on behind those before an earlier one
pub front_cut : (low first end : ℕ) (ids : List ℕ) → IncreaseFrom low ids → first ≤ end → items_between 0 end ids ≡ items_between 0 first ids ++ items_between first end ids
front_cut low first end [] increase order = refl
front_cut low first end (id ∷ ids) increase order =
    elim (before_or_behind id first) [
      | inl before ↦
          let rest = front_cut (id + 1) first end ids increase.1 order in
          between_in 0 end id ids (omega arith) (omega (arith, before, order)) ∙ (ap (λ (xs : List ℕ). id ∷ xs) rest
          ∙ sym (ap (λ (xs : List ℕ). xs ++ items_between first end (id ∷ ids)) (between_in 0 first id ids (omega arith) before)
          ∙ ap (λ (xs : List ℕ). (id ∷ items_between 0 first ids) ++ xs) (between_before first end id ids before)))
      | inr low_is ↦
          let here : IncreaseFrom id (id ∷ ids) = (omega arith, increase.1) in
          same id first end (id ∷ ids) here low_is ∙ sym (ap (λ (xs : List ℕ). xs ++ items_between first end (id ∷ ids)) (none_between id 0 first (id ∷ ids) here low_is))
    ]
  where
    same : (low first end : ℕ) (ids : List ℕ) → IncreaseFrom low ids → first ≤ low → items_between 0 end ids ≡ items_between first end ids
    same low first end [] increase below = refl
    same low first end (id ∷ ids) increase below =
        let rest = same (id + 1) first end ids increase.1 (omega (arith, increase.0, below)) in
        elim (before_or_behind id end) [
          | inl inside ↦ between_in 0 end id ids (omega arith) inside ∙ (ap (λ (xs : List ℕ). id ∷ xs) rest ∙ sym (between_in first end id ids (omega (arith, increase.0, below)) inside))
          | inr past ↦ between_behind 0 end id ids past ∙ (rest ∙ sym (between_behind first end id ids past))
        ]

-- two views that have the same items before one have the same before an earlier one
pub front_agrees : (first end : ℕ) (ids later : List ℕ) → first ≤ end → items_between 0 end ids ≡ items_between 0 end later → items_between 0 first ids ≡ items_between 0 first later
front_agrees first end ids later order is = sym (twice ids) ∙ (ap (λ (xs : List ℕ). items_between 0 first xs) is ∙ twice later)
  where
    twice : (ids : List ℕ) → items_between 0 first (items_between 0 end ids) ≡ items_between 0 first ids
    twice [] = refl
    twice (id ∷ ids) =
        elim (before_or_behind id end) [
          | inl inside ↦ ap (λ (xs : List ℕ). items_between 0 first xs) (between_in 0 end id ids (omega arith) inside) ∙ (elim (before_or_behind id first) [
            | inl early ↦ between_in 0 first id (items_between 0 end ids) (omega arith) early ∙ (ap (λ (xs : List ℕ). id ∷ xs) (twice ids) ∙ sym (between_in 0 first id ids (omega arith) early))
            | inr later ↦ between_behind 0 first id (items_between 0 end ids) later ∙ (twice ids ∙ sym (between_behind 0 first id ids later))
          ])
          | inr past ↦ ap (λ (xs : List ℕ). items_between 0 first xs) (between_behind 0 end id ids past) ∙ (twice ids ∙ sym (between_behind 0 first id ids (omega (arith, past, order))))
        ]

-- the first items of a view, where they stand before one
pub first_between : (end n : ℕ) (ids : List ℕ) → ((k : ℕ) → k < n → get_or ids k 0 < end) → n ≤ length ids → items_between 0 end ids ≡ take n ids ++ items_between 0 end (drop n ids)
first_between end zero ids all inside = refl
first_between end (suc n) [] all inside = absurd (omega (arith, inside))
first_between end (suc n) (id ∷ ids) all inside =
    between_in 0 end id ids (omega arith) (all 0 (omega arith)) ∙ ap (λ (xs : List ℕ). id ∷ xs) (first_between end n ids (λ k below. all (suc k) (omega (arith, below))) (omega (arith, inside)))

-- ## Where items stand

-- an item before another of the view stands among those before it
pub between_has : (first end : ℕ) (ids : List ℕ) (k : ℕ) → k < length (items_between first end ids) → (first ≤ get_or (items_between first end ids) k 0) × (get_or (items_between first end ids) k 0 < end)
between_has first end [] k below = absurd (omega (arith, below))
between_has first end (id ∷ ids) k below =
    elim (before_or_behind id first) [
      | inl before ↦ other (between_before first end id ids before) (between_has first end ids) k below
      | inr low_is ↦ elim (before_or_behind id end) [
        | inl inside ↦ subst (λ (xs : List ℕ). (k : ℕ) → k < length xs → (first ≤ get_or xs k 0) × (get_or xs k 0 < end)) (sym (between_in first end id ids low_is inside)) (here low_is inside (between_has first end ids)) k below
        | inr past ↦ other (between_behind first end id ids past) (between_has first end ids) k below
      ]
    ]
  where
    other : {all : List ℕ} → all ≡ items_between first end ids → ((k : ℕ) → k < length (items_between first end ids) → (first ≤ get_or (items_between first end ids) k 0) × (get_or (items_between first end ids) k 0 < end))
        → (k : ℕ) → k < length all → (first ≤ get_or all k 0) × (get_or all k 0 < end)
    other is has = subst (λ (xs : List ℕ). (k : ℕ) → k < length xs → (first ≤ get_or xs k 0) × (get_or xs k 0 < end)) (sym is) has

    here : first ≤ id → id < end → ((k : ℕ) → k < length (items_between first end ids) → (first ≤ get_or (items_between first end ids) k 0) × (get_or (items_between first end ids) k 0 < end))
        → (k : ℕ) → k < length (id ∷ items_between first end ids) → (first ≤ get_or (id ∷ items_between first end ids) k 0) × (get_or (id ∷ items_between first end ids) k 0 < end)
    here low high has zero below = (low, high)
    here low high has (suc k) below = has k (omega (arith, below))

-- no item before another stands among those from it on
pub from_has : (first : ℕ) (ids : List ℕ) (k : ℕ) → k < length (items_from first ids) → first ≤ get_or (items_from first ids) k 0
from_has first [] k below = absurd (omega (arith, below))
from_has first (id ∷ ids) k below =
    elim (before_or_behind id first) [
      | inl before ↦ subst (λ (xs : List ℕ). (k : ℕ) → k < length xs → first ≤ get_or xs k 0) (sym (from_before first id ids before)) (from_has first ids) k below
      | inr low_is ↦ subst (λ (xs : List ℕ). (k : ℕ) → k < length xs → first ≤ get_or xs k 0) (sym (from_in first id ids low_is)) (here low_is (from_has first ids)) k below
    ]
  where
    here : first ≤ id → ((k : ℕ) → k < length (items_from first ids) → first ≤ get_or (items_from first ids) k 0) → (k : ℕ) → k < length (id ∷ items_from first ids) → first ≤ get_or (id ∷ items_from first ids) k 0
    here low has zero below = low
    here low has (suc k) below = has k (omega (arith, below))

-- a later item is no smaller
pub in_order : (low : ℕ) (ids : List ℕ) (j k : ℕ) → IncreaseFrom low ids → j ≤ k → k < length ids → get_or ids j 0 ≤ get_or ids k 0
in_order low [] j k increase order below = absurd (omega (arith, below))
in_order low (id ∷ ids) zero zero increase order below = omega arith
in_order low (id ∷ ids) zero (suc k) increase order below = (let least = at_least (id + 1) ids k increase.1 (omega (arith, below)) in omega (arith, least))
  where
    at_least : (low : ℕ) (ids : List ℕ) (k : ℕ) → IncreaseFrom low ids → k < length ids → low ≤ get_or ids k 0
    at_least low [] k increase below = absurd (omega (arith, below))
    at_least low (id ∷ ids) zero increase below = increase.0
    at_least low (id ∷ ids) (suc k) increase below = (let rest = at_least (id + 1) ids k increase.1 (omega (arith, below)) in omega (arith, rest, increase.0))
in_order low (id ∷ ids) (suc j) zero increase order below = absurd (omega (arith, order))
in_order low (id ∷ ids) (suc j) (suc k) increase order below = in_order (id + 1) ids j k increase.1 (omega (arith, order)) (omega (arith, below))

-- ## They increase too

pub looser : (low lower : ℕ) (ids : List ℕ) → lower ≤ low → IncreaseFrom low ids → IncreaseFrom lower ids
looser low lower [] order increase = tt
looser low lower (id ∷ ids) order increase = (omega (arith, order, increase.0), increase.1)

pub between_increases : (low first end : ℕ) (ids : List ℕ) → IncreaseFrom low ids → IncreaseFrom low (items_between first end ids)
between_increases low first end [] increase = tt
between_increases low first end (id ∷ ids) increase =
    let rest = between_increases (id + 1) first end ids increase.1 in
    let later = looser (id + 1) low (items_between first end ids) (omega (arith, increase.0)) rest in
    elim (before_or_behind id first) [
      | inl before ↦ subst (λ (xs : List ℕ). IncreaseFrom low xs) (sym (between_before first end id ids before)) later
      | inr low_is ↦ elim (before_or_behind id end) [
        | inl inside ↦ subst (λ (xs : List ℕ). IncreaseFrom low xs) (sym (between_in first end id ids low_is inside)) (increase.0, rest)
        | inr past ↦ subst (λ (xs : List ℕ). IncreaseFrom low xs) (sym (between_behind first end id ids past)) later
      ]
    ]
