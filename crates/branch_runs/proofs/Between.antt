-- The items between two of a view are those of its texts.
use Rattle.std.proofs.Common.{◌≡◌, ◌∙◌, ℕ, zero, suc, ◌+◌, ◌-◌, ◌<◌, inl, inr, Bool, true, false, List, [], ◌∷◌, ◌++◌, refl, sym, arith}
use Rattle.std.specs.Prelude.{min, max, nat_le, nat_lt, ◌&&◌, if◌then◌else◌, All}
use Rattle.std.specs.List.{range_with_len}
use Rattle.branch_runs.specs.Anew.{items_between}
use Rattle.branch_runs.proofs.Taken.{cases_lt}

append-by : (c : Bool) (x : ℕ) (xs ys : List ℕ) → (if c then x ∷ (xs ++ ys) else (xs ++ ys)) ≡ (if c then x ∷ xs else xs) ++ ys
append-by true x xs ys = refl
append-by false x xs ys = refl

pub items_between-append : (first end : ℕ) (xs ys : List ℕ) → items_between first end (xs ++ ys) ≡ items_between first end xs ++ items_between first end ys
items_between-append first end [] ys = refl
items_between-append first end (x ∷ xs) ys =
    rw (items_between-append first end xs ys) (append-by (nat_le first x && nat_lt x end) x (items_between first end xs) (items_between first end ys))

-- one item more at the front of a row
row_more : (a n m : ℕ) → n ≡ suc m → a ∷ range_with_len (a + 1) m ≡ range_with_len a n
row_more a n m is = rw is refl

row_none : (a n : ℕ) → n ≡ 0 → [] ≡ range_with_len a n
row_none a n is = rw is refl

-- those of a row
pub row_between : (first end a n : ℕ) → items_between first end (range_with_len a n) ≡ range_with_len (max first a) (min end (a + n) - max first a)
row_between first end a zero = row_none (max first a) (min end (a + 0) - max first a) (omega arith)
row_between first end a (suc n) = elim (cases_lt a first) [
  | inl low ↦
      let out : (nat_le first a && nat_lt a end) ≡ false = grind (arith, low) in
      let e : max first (a + 1) ≡ max first a = omega (arith, low) in
      let f : a + 1 + n ≡ a + suc n = omega arith in
      rw (out, row_between first end (a + 1) n, e, f) refl
  | inr from ↦ elim (cases_lt a end) [
    | inl below ↦
        let in_it : (nat_le first a && nat_lt a end) ≡ true = grind (arith, from, below) in
        let e : max first (a + 1) ≡ a + 1 = omega (arith, from) in
        let f : max first a ≡ a = omega (arith, from) in
        rw (in_it, row_between first end (a + 1) n, e, f) (row_more a (min end (a + suc n) - a) (min end (a + 1 + n) - (a + 1)) (omega (arith, below)))
    | inr behind ↦
        let out : (nat_le first a && nat_lt a end) ≡ false = grind (arith, behind) in
        rw (out, row_between first end (a + 1) n)
        (sym (row_none (max first (a + 1)) (min end (a + 1 + n) - max first (a + 1)) (omega (arith, behind))) ∙ row_none (max first a) (min end (a + suc n) - max first a) (omega (arith, behind)))
  ]
]

-- all items lie before an end that is behind them all
pub between_all : (end : ℕ) (ids : List ℕ) → All (λ id. id < end) ids → items_between 0 end ids ≡ ids
between_all end [] all = refl
between_all end (id ∷ ids) all =
    let below : id < end = all 0 0 (omega arith) in
    let is : (nat_le 0 id && nat_lt id end) ≡ true = grind (arith, below) in
    rw (is, between_all end ids (λ k d h. all (suc k) d (omega (arith, h)))) refl
