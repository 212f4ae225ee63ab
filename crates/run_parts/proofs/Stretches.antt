-- Where the items of a stretch of a view stand in it.
use Rattle.std.proofs.Common.{◌≡◌, ◌∙◌, inl, inr, ℕ, ◌+◌, ◌-◌, ◌<◌, ◌≤◌, List, ◌++◌, length, length-append, get_or, sym}
use Rattle.std.proofs.Common.{ap, subst, arith}
use Rattle.std.specs.List.{Contains}
use Rattle.std.proofs.lemmas.List.{get_or_default, get_or-append-add, get_or_append_left}
use Rattle.token_arena.specs.Ids.{Increase}
use Rattle.branch_runs.specs.Anew.{items_between}
use Rattle.run_parts.proofs.Between.{items_from, view_cut, window_cut, between_has, from_has}
use Rattle.run_parts.proofs.FirstParts.{place_of}
use Rattle.run_parts.proofs.Parts.{before_or_behind}

-- the items before one are not more than all
pub front_short : (end : ℕ) (ids : List ℕ) → Increase ids → length (items_between 0 end ids) ≤ length ids
front_short end ids increase =
    let front = items_between 0 end ids in
    let all : length ids ≡ length (front ++ items_from end ids) = ap (λ (xs : List ℕ). length xs) (view_cut end ids increase) in
    omega (arith, all, length-append front (items_from end ids))

-- each stands where it stands among them
pub front_item : (end : ℕ) (ids : List ℕ) (k : ℕ) → Increase ids → k < length (items_between 0 end ids) → get_or ids k 0 ≡ get_or (items_between 0 end ids) k 0
front_item end ids k increase below =
    ap (λ (xs : List ℕ). get_or xs k 0) (view_cut end ids increase) ∙ get_or_append_left (items_between 0 end ids) (items_from end ids) 0 k below

-- an item before the one stands among them
pub front_has : (end : ℕ) (ids : List ℕ) (k : ℕ) → Increase ids → k < length ids → get_or ids k 0 < end → k < length (items_between 0 end ids)
front_has end ids k increase below early =
    let front = items_between 0 end ids in
    let rest = items_from end ids in
    let n = length front in
    elim (before_or_behind k n) [
      | inl inside ↦ inside
      | inr late ↦
          let at : k ≡ n + (k - n) = omega (arith, late) in
          let all : length ids ≡ length (front ++ rest) = ap (λ (xs : List ℕ). length xs) (view_cut end ids increase) in
          let is : get_or ids k 0 ≡ get_or rest (k - n) 0 =
          ap (λ (xs : List ℕ). get_or xs k 0) (view_cut end ids increase) ∙ (ap (λ j. get_or (front ++ rest) j 0) at ∙ get_or-append-add front rest (k - n) 0) in
          let has = from_has end ids (k - n) (omega (arith, below, all, length-append front rest, late)) in
          absurd (omega (arith, is, has, early))
    ]

-- a view that has the same items before one has each of them
pub in_same_front : (end : ℕ) (ids later : List ℕ) → Increase ids → Increase later → items_between 0 end ids ≡ items_between 0 end later → (id : ℕ) → id < end → Contains ids id → Contains later id
in_same_front end ids later increase increases same id early (k, below, is) =
    let here : get_or ids k 0 ≡ id = get_or_default ids k 0 id below ∙ is in
    let inside = front_has end ids k increase below (omega (arith, here, early)) in
    let as_many : length (items_between 0 end ids) ≡ length (items_between 0 end later) = ap (λ (xs : List ℕ). length xs) same in
    let there : k < length (items_between 0 end later) = omega (arith, inside, as_many) in
    let short = front_short end later increases in
    let fits : k < length later = omega (arith, there, short) in
    let item : get_or later k 0 ≡ id =
    front_item end later k increases there ∙ (sym (ap (λ (xs : List ℕ). get_or xs k 0) same) ∙ (sym (front_item end ids k increase inside) ∙ here)) in
    (k, fits, get_or_default later k id 0 fits ∙ item)

-- the items of a window follow those before it
pub window_fits : (first end : ℕ) (ids : List ℕ) → Increase ids → first ≤ end → length (items_between 0 first ids) + length (items_between first end ids) ≤ length ids
window_fits first end ids increase order =
    let front = items_between 0 first ids in
    let window = items_between first end ids in
    let rest = items_from end ids in
    let all : length ids ≡ length (front ++ (window ++ rest)) = ap (λ (xs : List ℕ). length xs) (window_cut first end ids increase order) in
    omega (arith, all, length-append front (window ++ rest), length-append window rest)

pub window_item : (first end : ℕ) (ids : List ℕ) (k : ℕ) → Increase ids → first ≤ end → k < length (items_between first end ids)
    → get_or ids (length (items_between 0 first ids) + k) 0 ≡ get_or (items_between first end ids) k 0
window_item first end ids k increase order below =
    let front = items_between 0 first ids in
    let window = items_between first end ids in
    let rest = items_from end ids in
    ap (λ (xs : List ℕ). get_or xs (length front + k) 0) (window_cut first end ids increase order)
    ∙ (get_or-append-add front (window ++ rest) k 0 ∙ get_or_append_left window rest 0 k below)

-- what holds of an item at a place of a window
pub record NextWindow (first end : ℕ) (ids : List ℕ) (place id : ℕ) : Type 0 where
  pub before : id < end
  pub stands : length (items_between 0 id ids) ≡ length (items_between 0 first ids) + place

pub next_window : (first end : ℕ) (ids window : List ℕ) (place id : ℕ) → Increase ids → first ≤ end → window ≡ items_between first end ids → id ≡ get_or window place 0 → place < length window
    → NextWindow first end ids place id
next_window first end ids window place id increase order is at below =
    let inside : place < length (items_between first end ids) = subst (λ (xs : List ℕ). place < length xs) is below in
    let item : id ≡ get_or (items_between first end ids) place 0 = at ∙ ap (λ (xs : List ℕ). get_or xs place 0) is in
    let there = window_item first end ids place increase order inside in
    let fits = window_fits first end ids increase order in
    let k = length (items_between 0 first ids) + place in
    let has = (between_has first end ids place inside).1 in
    let placed : length (items_between 0 (get_or ids k 0) ids) ≡ k = place_of 0 ids k increase (omega (arith, inside, fits)) in
    record {
      before = omega (arith, item, has);
      stands = ap (λ i. length (items_between 0 i ids)) (item ∙ sym there) ∙ placed;
    }
