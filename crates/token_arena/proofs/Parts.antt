-- The items between two places of a view.
use Rattle.std.proofs.Common.{◌≡◌, ◌∙◌, ℕ, zero, suc, ◌+◌, ◌-◌, ◌<◌, ◌≤◌, Bool, true, false, List, [], ◌∷◌, ◌++◌, map, length, take, drop, refl, sym, ap, arith, get_or, append_assoc}
use Rattle.std.specs.Prelude.{min, nat_le, slice_range, if◌then◌else◌}
use Rattle.std.specs.List.{range_with_len}
use Rattle.std.proofs.Math.Seq.{drop-cons}
use Rattle.std.proofs.Math.ListN.{drop_of_length-le}
use Rattle.std.proofs.lemmas.Bool.{le-leb, lt-leb, leb-true, leb-false}
use Rattle.std.proofs.lemmas.List.{append-nil, drop-append-le, length-drop}
use Rattle.std.proofs.lemmas.List.FromFn.{length-range_with_len}
use Rattle.token_arena.specs.declared.view.Segment.{Segment}
use Rattle.token_arena.specs.Segments.{ids_of, AscendFrom, segment_bounds, CountFrom, no_segment, HasPlace}
use Rattle.token_arena.proofs.SegmentLemmas.{after_first}

-- the items of a segment at places from one to before another
abbrev pub bounds_between : ℕ → ℕ → Segment → ℕ × ℕ
bounds_between first end s = (s.first + (first - s.before), s.first + min (s.end - s.first) (end - s.before))

-- those of segments
abbrev pub between_of : ℕ → ℕ → List Segment → List (ℕ × ℕ)
between_of first end [] = []
between_of first end (s ∷ segments) =
    if nat_le (s.before + (s.end - s.first)) first then between_of first end segments
    else (if nat_le end s.before then [] else bounds_between first end s ∷ between_of first end segments)

-- ## They ascend

ascend_lower : (low high : ℕ) (stretches : List (ℕ × ℕ)) → low ≤ high → AscendFrom high stretches → AscendFrom low stretches
ascend_lower low high [] h order = tt
ascend_lower low high (s ∷ stretches) h order = (omega (arith, h, order.0), order.1, order.2)

pub between_ascend : (first end low n : ℕ) (segments : List Segment) → first < end → AscendFrom low (map segment_bounds segments) → AscendFrom low (between_of first end segments)
between_ascend first end low n [] some order = tt
between_ascend first end low n (s ∷ segments) some order =
    by_test (between_ascend first end (s.end + 1) n segments some order.2) (nat_le (s.before + (s.end - s.first)) first) (nat_le end s.before) refl refl
  where
    by_test : AscendFrom (s.end + 1) (between_of first end segments) → (before behind : Bool) → nat_le (s.before + (s.end - s.first)) first ≡ before → nat_le end s.before ≡ behind
        → AscendFrom low (if before then between_of first end segments else (if behind then [] else bounds_between first end s ∷ between_of first end segments))
    by_test rest true behind b e = ascend_lower low (s.end + 1) (between_of first end segments) (omega (arith, order.0, order.1)) rest
    by_test rest false true b e = tt
    by_test rest false false b e =
        let early : first < s.before + (s.end - s.first) = leb-false (s.before + (s.end - s.first)) first b in
        let late : s.before < end = leb-false end s.before e in
        (omega (arith, order.0), omega (arith, early, late, some, order.1), ascend_lower (s.first + min (s.end - s.first) (end - s.before) + 1) (s.end + 1) (between_of first end segments) (omega (arith, order.1)) rest)

-- ## They are the items between the places

front : (xs ys : List ℕ) (n : ℕ) → take n (xs ++ ys) ≡ take n xs ++ take (n - length xs) ys
front [] ys zero = refl
front [] ys (suc n) = let e : suc n - 0 ≡ suc n = omega arith in ap (λ k. take k ys) (sym e)
front (x ∷ xs) ys zero = let e : 0 - suc (length xs) ≡ 0 = omega arith in ap (λ k. take k ys) (sym e)
front (x ∷ xs) ys (suc n) =
    let e : suc n - suc (length xs) ≡ n - length xs = omega arith in
    ap (λ (zs : List ℕ). x ∷ zs) (front xs ys n) ∙ ap (λ k. (x ∷ take n xs) ++ take k ys) (sym e)

and_more : (xs ys : List ℕ) (a n : ℕ) → a ≤ length xs → take n (drop a (xs ++ ys)) ≡ take n (drop a xs) ++ take (n - (length xs - a)) ys
and_more xs ys a n h =
    ap (λ (zs : List ℕ). take n zs) (drop-append-le a xs ys h) ∙ (front (drop a xs) ys n ∙ ap (λ k. take n (drop a xs) ++ take (n - k) ys) (length-drop a xs))

past : (xs ys : List ℕ) (a : ℕ) → length xs ≤ a → drop a (xs ++ ys) ≡ drop (a - length xs) ys
past [] ys a h = let e : a - 0 ≡ a = omega arith in ap (λ k. drop k ys) (sym e)
past (x ∷ xs) ys zero h = absurd (omega arith)
past (x ∷ xs) ys (suc a) h =
    let e : suc a - suc (length xs) ≡ a - length xs = omega arith in
    past xs ys a (omega (arith, h)) ∙ ap (λ k. drop k ys) (sym e)

row_part : (first n a count : ℕ) → a ≤ n → take count (drop a (range_with_len first n)) ≡ range_with_len (first + a) (min count (n - a))
row_part first n zero zero h = let e : min 0 (n - 0) ≡ 0 = omega arith in ap (λ k. range_with_len (first + 0) k) (sym e)
row_part first zero zero (suc count) h = let e : min (suc count) (0 - 0) ≡ 0 = omega arith in ap (λ k. range_with_len (first + 0) k) (sym e)
row_part first (suc n) zero (suc count) h =
    let e : min (suc count) (suc n - 0) ≡ suc (min count (n - 0)) = omega arith in
    let f : first + 0 ≡ first = omega arith in
    let g : first + 1 + 0 ≡ first + 1 = omega arith in
    ap (λ (zs : List ℕ). first ∷ zs) (row_part (first + 1) n zero count (omega arith))
    ∙ (ap (λ k. first ∷ range_with_len k (min count (n - 0))) g
    ∙ (ap (λ k. k ∷ range_with_len (k + 1) (min count (n - 0))) (sym f)
    ∙ ap (λ k. range_with_len (first + 0) k) (sym e)))
row_part first zero (suc a) count h = absurd (omega arith)
row_part first (suc n) (suc a) count h =
    let e : suc n - suc a ≡ n - a = omega arith in
    let f : first + 1 + a ≡ first + suc a = omega arith in
    row_part (first + 1) n a count (omega (arith, h)) ∙ (ap (λ k. range_with_len k (min count (n - a))) f ∙ ap (λ k. range_with_len (first + suc a) (min count k)) (sym e))

items_between : (first end n : ℕ) (segments : List Segment) → first < end → CountFrom n segments
    → ids_of (between_of first end segments) ≡ slice_range (ids_of (map segment_bounds segments)) (first - n) (end - n)
items_between first end n [] some counted = nothing (end - n - (first - n)) (first - n)
  where
    nothing : (a b : ℕ) → [] ≡ take a (drop {A = ℕ} b [])
    nothing zero zero = refl
    nothing zero (suc b) = refl
    nothing (suc a) zero = refl
    nothing (suc a) (suc b) = refl
items_between first end n (s ∷ segments) some counted =
    by_test (items_between first end (n + (s.end - s.first)) segments some counted.1) (nat_le (s.before + (s.end - s.first)) first) (nat_le end s.before) refl refl
  where
    many : ℕ
    many = s.end - s.first

    row : List ℕ
    row = range_with_len s.first many

    later : List ℕ
    later = ids_of (map segment_bounds segments)

    len : length row ≡ many
    len = length-range_with_len s.first many

    by_test : ids_of (between_of first end segments) ≡ slice_range later (first - (n + many)) (end - (n + many)) → (before behind : Bool) → nat_le (s.before + many) first ≡ before → nat_le end s.before ≡ behind
        → ids_of (if before then between_of first end segments else (if behind then [] else bounds_between first end s ∷ between_of first end segments)) ≡ slice_range (row ++ later) (first - n) (end - n)
    by_test rest true behind b e =
        let low : s.before + many ≤ first = leb-true (s.before + many) first b in
        let a : length row ≤ first - n = omega (arith, low, counted.0, len) in
        let same : first - n - length row ≡ first - (n + many) = omega (arith, len) in
        let span : end - n - (first - n) ≡ end - (n + many) - (first - (n + many)) = omega (arith, low, counted.0, some) in
        rest ∙ (ap (λ k. take k (drop (first - (n + many)) later)) (sym span) ∙ (ap (λ k. take (end - n - (first - n)) (drop k later)) (sym same) ∙ ap (λ (zs : List ℕ). take (end - n - (first - n)) zs) (sym (past row later (first - n) a))))
    by_test rest false true b e =
        let high : end ≤ s.before = leb-true end s.before e in
        let none : end - n - (first - n) ≡ 0 = omega (arith, high, counted.0) in
        ap (λ k. take k (drop (first - n) (row ++ later))) (sym none)
    by_test rest false false b e =
        let early : first < s.before + many = leb-false (s.before + many) first b in
        let late : s.before < end = leb-false end s.before e in
        let short : first - n ≤ length row = omega (arith, early, counted.0, len) in
        let span : ℕ = end - n - (first - n) in
        let starts : s.first + (first - s.before) ≡ s.first + (first - n) = omega (arith, counted.0) in
        let count : s.first + min many (end - s.before) - (s.first + (first - s.before)) ≡ min span (many - (first - n)) = omega (arith, counted.0, early, late, some) in
        let here : range_with_len (s.first + (first - s.before)) (s.first + min many (end - s.before) - (s.first + (first - s.before))) ≡ take span (drop (first - n) row) =
        ap (λ k. range_with_len k (s.first + min many (end - s.before) - (s.first + (first - s.before)))) starts ∙ (ap (λ k. range_with_len (s.first + (first - n)) k) count ∙ sym (row_part s.first many (first - n) span (omega (arith, short, len)))) in
        let none : first - (n + many) ≡ 0 = omega (arith, early, counted.0) in
        let left : end - (n + many) - (first - (n + many)) ≡ span - (length row - (first - n)) = omega (arith, early, late, counted.0, len, some) in
        let behind_it : slice_range later (first - (n + many)) (end - (n + many)) ≡ take (span - (length row - (first - n))) later =
        ap (λ k. take k (drop (first - (n + many)) later)) left ∙ ap (λ k. take (span - (length row - (first - n))) (drop k later)) none in
        ap (λ (zs : List ℕ). zs ++ ids_of (between_of first end segments)) here
        ∙ (ap (λ (zs : List ℕ). take span (drop (first - n) row) ++ zs) (rest ∙ behind_it) ∙ sym (and_more row later (first - n) span short))

-- ## Segment by segment

-- the segments before the one that has the first place have none of them
pub before_first : (segments : List Segment) (n j first end : ℕ) → CountFrom n segments → j < length segments → HasPlace segments first j → between_of first end (drop j segments) ≡ between_of first end segments
before_first [] n j first end counted within has = absurd (omega arith)
before_first (s ∷ segments) n zero first end counted within has = refl
before_first (s ∷ segments) n (suc j) first end counted within has =
    let rest = before_first segments (n + (s.end - s.first)) j first end counted.1 (omega arith) (record { low = has.low; high = has.high }) in
    let far : s.before + (s.end - s.first) ≤ first = omega (arith, has.low, after_first segments (n + (s.end - s.first)) j counted.1 (omega arith), counted.0) in
    let skip : nat_le (s.before + (s.end - s.first)) first ≡ true = le-leb (s.before + (s.end - s.first)) first far in
    rest ∙ ap (λ (b : Bool). if b then between_of first end segments else (if nat_le end s.before then [] else bounds_between first end s ∷ between_of first end segments)) (sym skip)

-- a segment from the one that has the first place on goes on behind that place
pub goes_on : (segments : List Segment) (n j i first : ℕ) → CountFrom n segments → j ≤ i → i < length segments → HasPlace segments first j
    → first < (get_or segments i no_segment).before + ((get_or segments i no_segment).end - (get_or segments i no_segment).first)
goes_on [] n j i first counted order within has = absurd (omega arith)
goes_on (s ∷ segments) n zero zero first counted order within has = has.high
goes_on (s ∷ segments) n zero (suc i) first counted order within has = omega (arith, has.high, after_first segments (n + (s.end - s.first)) i counted.1 (omega arith), counted.0)
goes_on (s ∷ segments) n (suc j) zero first counted order within has = absurd (omega arith)
goes_on (s ∷ segments) n (suc j) (suc i) first counted order within has = goes_on segments (n + (s.end - s.first)) j i first counted.1 (omega (arith, order)) (omega arith) (record { low = has.low; high = has.high })

-- a segment behind the last place ends them
none_behind : (first end : ℕ) (s : Segment) (segments : List Segment) → first < s.before + (s.end - s.first) → end ≤ s.before → between_of first end (s ∷ segments) ≡ []
none_behind first end s segments early far =
    let goes : nat_le (s.before + (s.end - s.first)) first ≡ false = lt-leb (s.before + (s.end - s.first)) first early in
    let stops : nat_le end s.before ≡ true = le-leb end s.before far in
    ap (λ (b : Bool). if b then between_of first end segments else (if nat_le end s.before then [] else bounds_between first end s ∷ between_of first end segments)) goes
    ∙ ap (λ (b : Bool). if b then [] else bounds_between first end s ∷ between_of first end segments) stops

one_more : (first end : ℕ) (s : Segment) (segments : List Segment) → first < s.before + (s.end - s.first) → s.before < end → between_of first end (s ∷ segments) ≡ bounds_between first end s ∷ between_of first end segments
one_more first end s segments early late =
    let goes : nat_le (s.before + (s.end - s.first)) first ≡ false = lt-leb (s.before + (s.end - s.first)) first early in
    let stays : nat_le end s.before ≡ false = lt-leb end s.before late in
    ap (λ (b : Bool). if b then between_of first end segments else (if nat_le end s.before then [] else bounds_between first end s ∷ between_of first end segments)) goes
    ∙ ap (λ (b : Bool). if b then [] else bounds_between first end s ∷ between_of first end segments) stays

-- one more segment is taken
pub taken : (first end : ℕ) (items : List Segment) (i : ℕ) (made : List (ℕ × ℕ)) → i < length items
    → first < (get_or items i no_segment).before + ((get_or items i no_segment).end - (get_or items i no_segment).first) → (get_or items i no_segment).before < end
    → made ++ between_of first end (drop i items) ≡ (made ++ bounds_between first end (get_or items i no_segment) ∷ []) ++ between_of first end (drop (i + 1) items)
taken first end items i made within early late =
    let s : Segment = get_or items i no_segment in
    let e : suc i ≡ i + 1 = omega arith in
    let is : drop i items ≡ s ∷ drop (i + 1) items = drop-cons items i no_segment within ∙ ap (λ j. s ∷ drop j items) e in
    ap (λ (zs : List (ℕ × ℕ)). made ++ zs) (ap (λ (zs : List Segment). between_of first end zs) is ∙ one_more first end s (drop (i + 1) items) early late)
    ∙ sym (append_assoc made (bounds_between first end s ∷ []) (between_of first end (drop (i + 1) items)))

-- nothing is left where a segment begins behind the last place
pub none_left : (segments : List Segment) (j number first end : ℕ) → CountFrom 0 segments → HasPlace segments first j → j ≤ number → number < length segments → end ≤ (get_or segments number no_segment).before
    → between_of first end (drop number segments) ≡ []
none_left segments j number first end counted has order within far =
    ap (λ (zs : List Segment). between_of first end zs) (drop-cons segments number no_segment within)
    ∙ none_behind first end (get_or segments number no_segment) (drop (suc number) segments) (goes_on segments 0 j number first counted order within has) far

-- and where there is none
pub none_more : (segments : List Segment) (number first end : ℕ) → length segments ≤ number → between_of first end (drop number segments) ≡ []
none_more segments number first end done = ap (λ (zs : List Segment). between_of first end zs) (drop_of_length-le segments done)

pub all_taken : (made rest all : List (ℕ × ℕ)) → rest ≡ [] → made ++ rest ≡ all → made ≡ all
all_taken made rest all none is = sym (append-nil made) ∙ (ap (λ (xs : List (ℕ × ℕ)). made ++ xs) (sym none) ∙ is)

pub items_of_part : (first end : ℕ) (segments : List Segment) → first < end → CountFrom 0 segments → ids_of (between_of first end segments) ≡ slice_range (ids_of (map segment_bounds segments)) first end
items_of_part first end segments some counted =
    let e : first - 0 ≡ first = omega arith in
    let f : end - 0 ≡ end = omega arith in
    items_between first end 0 segments some counted
    ∙ (ap (λ k. slice_range (ids_of (map segment_bounds segments)) k (end - 0)) e ∙ ap (λ k. slice_range (ids_of (map segment_bounds segments)) first k) f)
