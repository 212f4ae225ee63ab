-- Places of segments.
use Rattle.std.proofs.Common.{◌≡◌, ◌≢◌, ◌∙◌, ℕ, zero, suc, ◌+◌, ◌-◌, ◌<◌, ◌≤◌, ◌⊎◌, inl, inr, List, [], ◌∷◌, ◌++◌, map, length, get_or, take, refl, sym, ap, subst, arith, rules, length-append}
use Rattle.std.specs.Prelude.{IsTrue, nat_eq, ◌↔◌}
use Rattle.std.specs.List.{range_with_len}
use Rattle.std.proofs.lemmas.List.FromFn.{length-range_with_len, get_or-range_with_len}
use Rattle.token_arena.specs.declared.view.Segment.{Segment}
use Rattle.token_arena.specs.declared.view.Stretch.{Stretch}
use Rattle.std.proofs.lemmas.List.{take_more, map-append}
use Rattle.token_arena.specs.Segments.{ids_of, AscendFrom, segment_bounds, CountFrom, AreSegments, no_segment, HasPlace, bounds_of}

-- how many places stand before the next segment
pub next_before : (segments : List Segment) (n j : ℕ) → CountFrom n segments → suc j < length segments
    → (get_or segments (suc j) no_segment).before ≡ (get_or segments j no_segment).before + ((get_or segments j no_segment).end - (get_or segments j no_segment).first)
next_before [] n j counted h = absurd (omega arith)
next_before (s ∷ []) n j counted h = absurd (omega arith)
next_before (s ∷ (t ∷ more)) n zero counted h = rw (counted.0) counted.1.0
next_before (s ∷ (t ∷ more)) n (suc j) counted h = next_before (t ∷ more) (n + (s.end - s.first)) j counted.1 (omega arith)

pub length_items : (stretch : ℕ × ℕ) (stretches : List (ℕ × ℕ)) → length (ids_of (stretch ∷ stretches)) ≡ (stretch.1 - stretch.0) + length (ids_of stretches)
length_items stretch stretches = length-append (range_with_len stretch.0 (stretch.1 - stretch.0)) (ids_of stretches) ∙ ap (λ n. n + length (ids_of stretches)) (length-range_with_len stretch.0 (stretch.1 - stretch.0))

-- where the view ends
pub last_end : (segments : List Segment) (n j : ℕ) → CountFrom n segments → suc j ≡ length segments
    → n + length (ids_of (map segment_bounds segments)) ≡ (get_or segments j no_segment).before + ((get_or segments j no_segment).end - (get_or segments j no_segment).first)
last_end [] n j counted h = absurd (omega arith)
last_end (s ∷ []) n zero counted h = let len = length_items (segment_bounds s) [] in omega (arith, len, counted.0)
last_end (s ∷ []) n (suc j) counted h = absurd (omega arith)
last_end (s ∷ (t ∷ more)) n zero counted h = absurd (omega arith)
last_end (s ∷ (t ∷ more)) n (suc j) counted h =
    let rest = last_end (t ∷ more) (n + (s.end - s.first)) j counted.1 (omega arith) in
    let len = length_items (segment_bounds s) (map segment_bounds (t ∷ more)) in
    omega (arith, rest, len)

-- a segment is not empty, and no more places stand before it than items
pub record IsWell (s : Segment) : Type 0 where
  pub some : s.first < s.end
  pub room : s.before ≤ s.first

pub well : (segments : List Segment) (n low j : ℕ) → n ≤ low → AscendFrom low (map segment_bounds segments) → CountFrom n segments → j < length segments
    → IsWell (get_or segments j no_segment)
well [] n low j h order counted within = absurd (omega arith)
well (s ∷ segments) n low zero h order counted within = record { some = order.1; room = omega (arith, h, order.0, counted.0) }
well (s ∷ segments) n low (suc j) h order counted within =
    well segments (n + (s.end - s.first)) (s.end + 1) j (omega (arith, h, order.0, order.1)) order.2 counted.1 (omega arith)

-- no fewer places stand before a segment than before the first
pub after_first : (segments : List Segment) (n j : ℕ) → CountFrom n segments → j < length segments → n ≤ (get_or segments j no_segment).before
after_first [] n j counted h = absurd (omega arith)
after_first (s ∷ segments) n zero counted h = omega (arith, counted.0)
after_first (s ∷ segments) n (suc j) counted h = omega (arith, after_first segments (n + (s.end - s.first)) j counted.1 (omega arith))

get_left : (xs ys : List ℕ) (i d : ℕ) → i < length xs → get_or (xs ++ ys) i d ≡ get_or xs i d
get_left [] ys i d h = absurd (omega arith)
get_left (x ∷ xs) ys zero d h = refl
get_left (x ∷ xs) ys (suc i) d h = get_left xs ys i d (omega arith)

get_right : (xs ys : List ℕ) (i d : ℕ) → length xs ≤ i → get_or (xs ++ ys) i d ≡ get_or ys (i - length xs) d
get_right [] ys i d h = let e : i - 0 ≡ i = omega arith in rw e refl
get_right (x ∷ xs) ys zero d h = absurd (omega arith)
get_right (x ∷ xs) ys (suc i) d h = let e : suc i - suc (length xs) ≡ i - length xs = omega arith in rw e (get_right xs ys i d (omega arith))

-- the item at a place
pub item_at : (segments : List Segment) (n j k d : ℕ) → CountFrom n segments → j < length segments → HasPlace segments k j
    → get_or (ids_of (map segment_bounds segments)) (k - n) d ≡ (get_or segments j no_segment).first + (k - (get_or segments j no_segment).before)
item_at [] n j k d counted within has = absurd (omega arith)
item_at (s ∷ segments) n zero k d counted within has =
    let range = range_with_len s.first (s.end - s.first) in
    let len : length range ≡ s.end - s.first = length-range_with_len s.first (s.end - s.first) in
    let short : k - n < s.end - s.first = omega (arith, has.low, has.high, counted.0) in
    get_left range (ids_of (map segment_bounds segments)) (k - n) d (rw len short)
    ∙ (get_or-range_with_len s.first (s.end - s.first) (k - n) d short ∙ ap (λ b. s.first + (k - b)) (sym counted.0))
item_at (s ∷ segments) n (suc j) k d counted within has =
    let range = range_with_len s.first (s.end - s.first) in
    let len : length range ≡ s.end - s.first = length-range_with_len s.first (s.end - s.first) in
    let far : n + (s.end - s.first) ≤ k = omega (arith, has.low, after_first segments (n + (s.end - s.first)) j counted.1 (omega arith)) in
    let e : k - n - length range ≡ k - (n + (s.end - s.first)) = omega (arith, len) in
    get_right range (ids_of (map segment_bounds segments)) (k - n) d (omega (arith, len, far))
    ∙ (ap (λ i. get_or (ids_of (map segment_bounds segments)) i d) e
    ∙ item_at segments (n + (s.end - s.first)) j k d counted.1 (omega arith) (record { low = has.low; high = has.high }))

pub item_at_start : (segments : List Segment) (j k d : ℕ) → AreSegments segments → j < length segments → HasPlace segments k j
    → get_or (ids_of (map segment_bounds segments)) k d ≡ (get_or segments j no_segment).first + (k - (get_or segments j no_segment).before)
item_at_start segments j k d rule within has =
    let e : k - 0 ≡ k = omega arith in
    subst (λ i. get_or (ids_of (map segment_bounds segments)) i d ≡ (get_or segments j no_segment).first + (k - (get_or segments j no_segment).before)) e (item_at segments 0 j k d rule.counts within has)

at_most : (n m : ℕ) → m ≤ n → (m ≡ n) ⊎ (m < n)
at_most n m h = grind arith

past_end : (segments : List Segment) (n : ℕ) → length segments ≤ n → get_or segments n no_segment ≡ no_segment
past_end [] n h = refl
past_end (s ∷ segments) zero h = absurd (omega arith)
past_end (s ∷ segments) (suc n) h = past_end segments n (omega arith)

found_next : (segments : List Segment) (k low high : ℕ) → AreSegments segments → low < high → high ≤ length segments → high - low ≤ 1
    → (get_or segments low no_segment).before ≤ k → k < (get_or segments high no_segment).before → (high ≡ length segments) ⊎ (high < length segments)
    → HasPlace segments k low
found_next segments k low high rule order some near before next (inl end) =
    let none : (get_or segments high no_segment).before ≡ 0 = ap (λ (s : Segment). s.before) (past_end segments high (omega arith)) in
    absurd (omega (arith, none))
found_next segments k low high rule order some near before next (inr inside) =
    let e : high ≡ suc low = omega arith in
    let step : (get_or segments high no_segment).before ≡ (get_or segments low no_segment).before + ((get_or segments low no_segment).end - (get_or segments low no_segment).first) =
    rw e (next_before segments 0 low rule.counts (omega arith)) in
    record { low = before; high = omega (arith, step) }

-- the segment at which the halving ends has the place
pub found : (segments : List Segment) (k low high : ℕ) → AreSegments segments → k < length (ids_of (map segment_bounds segments))
    → low < high → high ≤ length segments → high - low ≤ 1 → (get_or segments low no_segment).before ≤ k
    → (high ≡ length segments) ⊎ (k < (get_or segments high no_segment).before) → HasPlace segments k low
found segments k low high rule within order some near before (inl end) =
    let last = last_end segments 0 low rule.counts (omega arith) in
    record { low = before; high = omega (arith, last) }
found segments k low high rule within order some near before (inr next) = found_next segments k low high rule order some near before next (at_most (length segments) high some)

next_first : (segments : List Segment) (low j : ℕ) → AscendFrom low (map segment_bounds segments) → suc j < length segments
    → (get_or segments j no_segment).end + 1 ≤ (get_or segments (suc j) no_segment).first
next_first [] low j order h = absurd (omega arith)
next_first (s ∷ []) low j order h = absurd (omega arith)
next_first (s ∷ (t ∷ more)) low zero order h = order.2.0
next_first (s ∷ (t ∷ more)) low (suc j) order h = next_first (t ∷ more) (s.end + 1) j order.2 (omega arith)

abbrev item : List Segment → ℕ → ℕ
item segments k = get_or (ids_of (map segment_bounds segments)) k 0

first_zero : (segments : List Segment) → CountFrom 0 segments → 0 < length segments → (get_or segments 0 no_segment).before ≡ 0
first_zero [] counted h = absurd (omega arith)
first_zero (s ∷ segments) counted h = counted.0

-- at the first place of a segment items are left out before it
apart : (segments : List Segment) (j k : ℕ) → AreSegments segments → j < length segments → HasPlace segments k j → 0 < k
    → (get_or segments j no_segment).before ≡ k → item segments k ≢ item segments (k - 1) + 1
apart segments zero k rule within has some is = λ e. let z = first_zero segments rule.counts within in omega (arith, z)
apart segments (suc j) k rule within has some is = λ e.
    let step = next_before segments 0 j rule.counts within in
    let w = well segments 0 0 j (omega arith) rule.order rule.counts (omega arith) in
    let before : HasPlace segments (k - 1) j = record { low = omega (arith, w.some); high = omega (arith, w.some) } in
    let a : item segments k ≡ (get_or segments (suc j) no_segment).first + (k - (get_or segments (suc j) no_segment).before) = item_at_start segments (suc j) k 0 rule within has in
    let b : item segments (k - 1) ≡ (get_or segments j no_segment).first + (k - 1 - (get_or segments j no_segment).before) = item_at_start segments j (k - 1) 0 rule (omega arith) before in
    let gap = next_first segments 0 j rule.order within in
    omega (arith, a, b, gap, step, w.some, e, is)

-- and at no other
near : (segments : List Segment) (j k : ℕ) → AreSegments segments → j < length segments → HasPlace segments k j
    → (get_or segments j no_segment).before < k → item segments k ≡ item segments (k - 1) + 1
near segments j k rule within has more =
    let before : HasPlace segments (k - 1) j = record { low = omega arith; high = omega (arith, has.high) } in
    let a : item segments k ≡ (get_or segments j no_segment).first + (k - (get_or segments j no_segment).before) = item_at_start segments j k 0 rule within has in
    let b : item segments (k - 1) ≡ (get_or segments j no_segment).first + (k - 1 - (get_or segments j no_segment).before) = item_at_start segments j (k - 1) 0 rule within before in
    omega (arith, a, b, more)

split : (a b : ℕ) → a ≤ b → (a ≡ b) ⊎ (a < b)
split a b h = grind arith

pub parted : (segments : List Segment) (ids : List ℕ) (j k : ℕ) → ids_of (map segment_bounds segments) ≡ ids → AreSegments segments → j < length segments → HasPlace segments k j → 0 < k
    → IsTrue (nat_eq (get_or segments j no_segment).before k) ↔ ((0 < k) × (get_or ids k 0 ≢ get_or ids (k - 1) 0 + 1))
parted segments ids j k is rule within has some = rw (← is) (
  (λ t. (some, apart segments j k rule within has some (grind (arith, t)))),
  (λ h. elim (split (get_or segments j no_segment).before k has.low) [
    | inl e ↦ rw e (search (rules, arith))
    | inr less ↦ absurd (h.1 (near segments j k rule within has less))
  ]),
)

abbrev pub places : List (ℕ × ℕ) → ℕ
places [] = 0
places (stretch ∷ stretches) = (stretch.1 - stretch.0) + places stretches

pub counted_push : (segments : List Segment) (n : ℕ) (s : Segment) → CountFrom n segments → s.before ≡ n + places (map segment_bounds segments)
    → CountFrom n (segments ++ s ∷ [])
counted_push [] n s counted e = (omega (arith, e), tt)
counted_push (t ∷ segments) n s counted e = (counted.0, counted_push segments (n + (t.end - t.first)) s counted.1 (omega (arith, e)))

places_push : (xs : List (ℕ × ℕ)) (x : ℕ × ℕ) → places (xs ++ x ∷ []) ≡ places xs + (x.1 - x.0)
places_push [] x = omega arith
places_push (y ∷ xs) x = let h = places_push xs x in omega (arith, h)

pub taken_pairs : (stretches : List Stretch) (i : ℕ) (d : Stretch) → i < length stretches
    → map bounds_of (take (i + 1) stretches) ≡ map bounds_of (take i stretches) ++ bounds_of (get_or stretches i d) ∷ []
taken_pairs stretches i d h = rw (take_more stretches i d h) (map-append bounds_of (take i stretches) (get_or stretches i d ∷ []))

pub taken_places : (stretches : List Stretch) (i : ℕ) (d : Stretch) → i < length stretches
    → places (map bounds_of (take (i + 1) stretches)) ≡ places (map bounds_of (take i stretches)) + ((get_or stretches i d).end - (get_or stretches i d).first)
taken_places stretches i d h = rw (taken_pairs stretches i d h) (places_push (map bounds_of (take i stretches)) (bounds_of (get_or stretches i d)))

-- there is room for the places before a stretch
room_from : (stretches : List Stretch) (low i : ℕ) (d : Stretch) → AscendFrom low (map bounds_of stretches) → i < length stretches
    → (low + places (map bounds_of (take i stretches)) ≤ (get_or stretches i d).first) × ((get_or stretches i d).first < (get_or stretches i d).end)
room_from [] low i d order h = absurd (omega arith)
room_from (p ∷ stretches) low zero d order h = (omega (arith, order.0), order.1)
room_from (p ∷ stretches) low (suc i) d order h =
    let more = room_from stretches (p.end + 1) i d order.2 (omega arith) in
    (omega (arith, order.0, order.1, more.0), more.1)

pub room : (stretches : List Stretch) (i : ℕ) (d : Stretch) → AscendFrom 0 (map bounds_of stretches) → i < length stretches
    → (places (map bounds_of (take i stretches)) ≤ (get_or stretches i d).first) × ((get_or stretches i d).first < (get_or stretches i d).end)
room stretches i d order h = let r = room_from stretches 0 i d order h in (omega (arith, r.0), r.1)
