-- The numbers of the segments of a view, and how many items stand behind one in its segment, as its segments tell them.
use Rattle.std.proofs.Common.{◌≡◌, ◌∙◌, ℕ, zero, suc, ◌+◌, ◌-◌, ◌<◌, ◌≤◌, ◌⊎◌, inl, inr, ◌==◌, Bool, true, false, List, [], ◌∷◌, ◌++◌, length, map, drop, get_or, refl, sym, ap, subst, arith}
use Rattle.std.specs.Prelude.{if◌then◌else◌}
use Rattle.std.specs.List.{range_with_len}
use Rattle.std.proofs.lemmas.Bool.{eq-eqb, eqb-true}
use Rattle.token_arena.specs.declared.view.Segment.{Segment}
use Rattle.token_arena.specs.Segments.{ids_of, segment_bounds, AscendFrom, AreSegments, CountFrom, HasPlace, no_segment}
use Rattle.token_arena.proofs.SegmentLemmas.{after_first, item_at_start, length_items}
use Rattle.view_parts.specs.Rows.{row_behind, segment_number, stretch_behind}

-- these items don't begin with this one
abbrev BeginsNot : ℕ → List ℕ → Type 0
BeginsNot id ids = get_or ids 0 0 ≡ id → ⊥

other : (a b : ℕ) → (a ≡ b → ⊥) → (a == b) ≡ false
other a b not_so = by_test (a == b) refl
  where
    by_test : (test : Bool) → (a == b) ≡ test → (a == b) ≡ false
    by_test true told = absurd (not_so (eqb-true a b told))
    by_test false told = told

-- ## One stretch, and other items behind it

begins_so : (a n : ℕ) (rest : List ℕ) → 0 < n → get_or (range_with_len a n ++ rest) 0 0 ≡ a
begins_so a zero rest some = absurd (omega (arith, some))
begins_so a (suc n) rest some = refl

none_behind : (id : ℕ) (rest : List ℕ) → BeginsNot (id + 1) rest → stretch_behind id rest ≡ 0
none_behind id [] apart = refl
none_behind id (next ∷ rest) apart = ap (λ b. if b then suc (stretch_behind next rest) else 0) (other next (id + 1) apart)

all_behind : (id n : ℕ) (rest : List ℕ) → BeginsNot (id + 1 + n) rest → stretch_behind id (range_with_len (id + 1) n ++ rest) ≡ n
all_behind id zero rest apart = none_behind id rest (λ e. apart (e ∙ omega arith))
all_behind id (suc n) rest apart =
    ap (λ b. if b then suc (stretch_behind (id + 1) (range_with_len (id + 1 + 1) n ++ rest)) else 0) (eq-eqb (id + 1) (id + 1) refl)
    ∙ ap (λ k. suc k) (all_behind (id + 1) n rest (λ e. apart (e ∙ omega arith)))

behind_in : (a n k id : ℕ) (rest : List ℕ) → k < n → id ≡ a + k → BeginsNot (a + n) rest → stretch_behind id (drop (suc k) (range_with_len a n ++ rest)) ≡ a + n - 1 - id
behind_in a zero k id rest inside is apart = absurd (omega (arith, inside))
behind_in a (suc n) zero id rest inside is apart =
    let e : id ≡ a = omega (arith, is) in
    subst (λ i. stretch_behind i (range_with_len (a + 1) n ++ rest) ≡ a + suc n - 1 - i) (sym e) (all_behind a n rest (λ at. apart (at ∙ omega arith)) ∙ omega arith)
behind_in a (suc n) (suc k) id rest inside is apart =
    behind_in (a + 1) n k id rest (omega (arith, inside)) (omega (arith, is)) (λ at. apart (at ∙ omega arith)) ∙ omega arith

number_in : (a n k : ℕ) (rest : List ℕ) → k < n → segment_number (range_with_len a n ++ rest) k ≡ 0
number_in a zero k rest inside = absurd (omega (arith, inside))
number_in a (suc n) zero rest inside = refl
number_in a (suc n) (suc k) rest inside =
    let ids = range_with_len (a + 1) n ++ rest in
    ap (λ b. if b then segment_number ids k else suc (segment_number ids k)) (eq-eqb (get_or ids 0 0) (a + 1) (begins_so (a + 1) n rest (omega (arith, inside))))
    ∙ number_in (a + 1) n k rest (omega (arith, inside))

number_past : (a n k i : ℕ) (rest : List ℕ) → i ≡ n + k → 0 < n → BeginsNot (a + n) rest → segment_number (range_with_len a n ++ rest) i ≡ suc (segment_number rest k)
number_past a zero k i rest is some apart = absurd (omega (arith, some))
number_past a (suc n) k zero rest is some apart = absurd (omega (arith, is))
number_past a (suc zero) k (suc i) rest is some apart =
    let e : i ≡ k = omega (arith, is) in
    ap (λ b. if b then segment_number rest i else suc (segment_number rest i)) (other (get_or rest 0 0) (a + 1) apart)
    ∙ ap (λ j. suc (segment_number rest j)) e
number_past a (suc (suc n)) k (suc i) rest is some apart =
    let ids = range_with_len (a + 1) (suc n) ++ rest in
    ap (λ b. if b then segment_number ids i else suc (segment_number ids i)) (eq-eqb (a + 1) (a + 1) refl)
    ∙ number_past (a + 1) (suc n) k i rest (omega (arith, is)) (omega arith) (λ e. apart (e ∙ omega arith))

past_range : (a n k i : ℕ) (rest : List ℕ) → i ≡ n + k → drop i (range_with_len a n ++ rest) ≡ drop k rest
past_range a zero k i rest is = (let e : i ≡ k = omega (arith, is) in ap (λ j. drop j rest) e)
past_range a (suc n) k zero rest is = absurd (omega (arith, is))
past_range a (suc n) k (suc i) rest is = past_range (a + 1) n k i rest (omega (arith, is))

-- ## The segments of a view

-- an item is left out before each segment but the first
next_apart : (segments : List Segment) (end : ℕ) → 0 < end → AscendFrom (end + 1) (map segment_bounds segments) → BeginsNot end (ids_of (map segment_bounds segments))
next_apart [] end some order = λ e. omega (arith, e, some)
next_apart (s ∷ segments) end some order = λ e.
    let begins = begins_so s.first (s.end - s.first) (ids_of (map segment_bounds segments)) (omega (arith, order.1)) in
    omega (arith, e, begins, order.0)

-- what the segments behind so many places tell of one that this one of them has
told_from : (segments : List Segment) (n low j k : ℕ) → AscendFrom low (map segment_bounds segments) → CountFrom n segments → j < length segments → HasPlace segments k j
    → (segment_number (ids_of (map segment_bounds segments)) (k - n) ≡ j)
    × ((id : ℕ) → id ≡ (get_or segments j no_segment).first + (k - (get_or segments j no_segment).before)
    → stretch_behind id (drop (suc (k - n)) (ids_of (map segment_bounds segments))) ≡ (get_or segments j no_segment).end - 1 - id)
told_from [] n low j k order counted within has = absurd (omega (arith, within))
told_from (s ∷ segments) n low zero k order counted within has =
    let rest = ids_of (map segment_bounds segments) in
    let len = s.end - s.first in
    let inside : k - n < len = omega (arith, has.low, has.high, counted.0) in
    let e : s.first + len ≡ s.end = omega (arith, order.1) in
    let apart : BeginsNot (s.first + len) rest = (λ at. next_apart segments s.end (omega (arith, order.1)) order.2 (at ∙ e)) in (
      number_in s.first len (k - n) rest inside,
      λ id is.
          behind_in s.first len (k - n) id rest inside (omega (arith, is, counted.0)) apart ∙ omega (arith, e),
    )
told_from (s ∷ segments) n low (suc j) k order counted within has =
    let rest = ids_of (map segment_bounds segments) in
    let len = s.end - s.first in
    let next = n + len in
    let far : next ≤ k = omega (arith, has.low, after_first segments next j counted.1 (omega (arith, within))) in
    let e : s.first + len ≡ s.end = omega (arith, order.1) in
    let apart : BeginsNot (s.first + len) rest = (λ begins. next_apart segments s.end (omega (arith, order.1)) order.2 (begins ∙ e)) in
    let later = told_from segments next (s.end + 1) j k order.2 counted.1 (omega (arith, within)) (record { low = has.low; high = has.high }) in
    let number = number_past s.first len (k - next) (k - n) rest (omega (arith, far)) (omega (arith, order.1)) apart in
    let dropped = past_range s.first len (suc (k - next)) (suc (k - n)) rest (omega (arith, far)) in
    (number ∙ ap (λ i. suc i) later.0, λ id is. ap (λ (ids : List ℕ). stretch_behind id ids) dropped ∙ later.1 id is)

-- where the segment with this number has a place, it has the items up to its end behind it
pub row_in : (segments : List Segment) (view : List ℕ) (place number id : ℕ) → AreSegments segments → ids_of (map segment_bounds segments) ≡ view → number < length segments → HasPlace segments place number → get_or view place 0 ≡ id
    → row_behind view place number ≡ (get_or segments number no_segment).end - 1 - id
row_in segments view place number id rule is within has at =
    subst (λ (v : List ℕ). get_or v place 0 ≡ id → row_behind v place number ≡ (get_or segments number no_segment).end - 1 - id) is row at
  where
    row : get_or (ids_of (map segment_bounds segments)) place 0 ≡ id → row_behind (ids_of (map segment_bounds segments)) place number ≡ (get_or segments number no_segment).end - 1 - id
    row at =
        let ids = ids_of (map segment_bounds segments) in
        let s = get_or segments number no_segment in
        let item = get_or ids place 0 in
        let e : place - 0 ≡ place = omega arith in
        let told = told_from segments 0 0 number place rule.order rule.counts within has in
        let so : segment_number ids place ≡ number = subst (λ k. segment_number ids k ≡ number) e told.0 in
        let behind : stretch_behind item (drop (suc place) ids) ≡ s.end - 1 - item = subst (λ k. stretch_behind item (drop (suc k) ids) ≡ s.end - 1 - item) e (told.1 item (item_at_start segments number place 0 rule within has)) in
        ap (λ b. if b then stretch_behind item (drop (suc place) ids) else 0) (eq-eqb (segment_number ids place) number so) ∙ (behind ∙ ap (λ k. s.end - 1 - k) at)

-- the segment that has a place
record HasSegment (segments : List Segment) (place : ℕ) : Type 0 where
  number : ℕ
  within : number < length segments
  has : HasPlace segments place number

before_or : (a b : ℕ) → (a < b) ⊎ (b ≤ a)
before_or a b = grind arith

segment_for : (segments : List Segment) (n place : ℕ) → CountFrom n segments → n ≤ place → place < n + length (ids_of (map segment_bounds segments)) → HasSegment segments place
segment_for [] n place counted low high = absurd (omega (arith, low, high))
segment_for (s ∷ segments) n place counted low high = elim (before_or place (n + (s.end - s.first))) [
  | inl early ↦ record { number = 0; within = omega arith; has = record { low = omega (arith, low, counted.0); high = omega (arith, early, counted.0) } }
  | inr late ↦
      let len = length_items (segment_bounds s) (map segment_bounds segments) in
      let rest = segment_for segments (n + (s.end - s.first)) place counted.1 late (omega (arith, high, len)) in
      record { number = suc rest.number; within = omega (arith, rest.within); has = record { low = rest.has.low; high = rest.has.high } }
]

-- another segment tells nothing of it
pub no_row_in : (segments : List Segment) (view : List ℕ) (place number : ℕ) → AreSegments segments → ids_of (map segment_bounds segments) ≡ view → place < length view → (number < length segments → HasPlace segments place number → ⊥)
    → row_behind view place number ≡ 0
no_row_in segments view place number rule is here not_in =
    subst (λ (v : List ℕ). place < length v → row_behind v place number ≡ 0) is none here
  where
    none : place < length (ids_of (map segment_bounds segments)) → row_behind (ids_of (map segment_bounds segments)) place number ≡ 0
    none below =
        let ids = ids_of (map segment_bounds segments) in
        let e : place - 0 ≡ place = omega arith in
        let found = segment_for segments 0 place rule.counts (omega arith) (omega (arith, below)) in
        let told = told_from segments 0 0 found.number place rule.order rule.counts found.within found.has in
        let so : segment_number ids place ≡ found.number = subst (λ k. segment_number ids k ≡ found.number) e told.0 in
        let apart : segment_number ids place ≡ number → ⊥ = (λ same.
        let at : found.number ≡ number = sym so ∙ same in
        not_in (subst (λ j. j < length segments) at found.within) (subst (λ j. HasPlace segments place j) at found.has)) in
        ap (λ b. if b then stretch_behind (get_or ids place 0) (drop (suc place) ids) else 0) (other (segment_number ids place) number apart)
