-- Parts that stand in no row.
use Rattle.std.proofs.Common.{◌≡◌, ◌∙◌, ◌⊎◌, inl, inr, ℕ, suc, ◌+◌, ◌-◌, ◌<◌, ◌≤◌, List, [], ◌∷◌, map, length, take, drop, get_or, sym, ap, subst, arith}
use Rattle.std.specs.Prelude.{None, slice_range}
use Rattle.std.proofs.lemmas.List.{ext_get_or, get_or-drop, get_or-take, length-drop, length-take-le}
use Rattle.std.proofs.lemmas.List.FromFn.{get_or-range_with_len}
use Rattle.token_arena.specs.Gaps.{Contents}
use Rattle.token_arena.specs.Ids.{Increase}
use Rattle.token_arena.specs.declared.view.Segment.{Segment}
use Rattle.token_arena.specs.Segments.{ids_of, segment_bounds, AreSegments, CountFrom, HasPlace, no_segment}
use Rattle.token_arena.proofs.SegmentLemmas.{item_at_start, length_items, well}
use Rattle.view_parts.specs.declared.known.KnownSpan.{KnownSpan}
use Rattle.view_parts.specs.Known.{IsSpan}
use Rattle.view_parts.specs.Parts.{part_inside, part_len, EndsBehind}
use Rattle.view_parts.proofs.Rows.{row_from, within_view}
use Rattle.view_parts.proofs.Walked.{inside_behind, len_behind, outside_at}

-- ## The same items

-- a segment has this place
pub record IsPlace (segments : List Segment) (k : ℕ) : Type 0 where
  pub number : ℕ
  pub within : number < length segments
  pub has : HasPlace segments k number

place_of : (segments : List Segment) (n k : ℕ) → CountFrom n segments → n ≤ k → k < n + length (ids_of (map segment_bounds segments)) → IsPlace segments k
place_of [] n k counted low high = absurd (omega (arith, low, high))
place_of (s ∷ segments) n k counted low high =
    elim (here_or_later k (n + (s.end - s.first))) [
      | inl below ↦ record { number = 0; within = omega arith; has = record { low = omega (arith, low, counted.0); high = omega (arith, below, counted.0) } }
      | inr above ↦
          let len = length_items (segment_bounds s) (map segment_bounds segments) in
          let rest = place_of segments (n + (s.end - s.first)) k counted.1 above (omega (arith, high, len)) in
          record { number = suc rest.number; within = omega (arith, rest.within); has = record { low = rest.has.low; high = rest.has.high } }
    ]
  where
    here_or_later : (k n : ℕ) → (k < n) ⊎ (n ≤ k)
    here_or_later k n = grind arith

-- the items of a row, of which the last is so far behind the first
row_item : (view : List ℕ) (place id behind : ℕ) → Increase view → place + behind < length view → get_or view place 0 ≡ id → get_or view (place + behind) 0 ≡ id + behind → (k : ℕ) → k ≤ behind → get_or view (place + k) 0 ≡ id + k
row_item view place id behind increase below at last k upto =
    let short : k < suc behind = omega (arith, upto) in
    sym (get_or-drop place view k 0)
    ∙ (sym (get_or-take (suc behind) (drop place view) k 0 short)
    ∙ (ap (λ (xs : List ℕ). get_or xs k 0) (row_from view place id behind increase below at last) ∙ get_or-range_with_len id (suc behind) k 0 short))

-- a segment is not empty, and ends no later than its view
pub record IsInside (segments : List Segment) (n whole : ℕ) : Type 0 where
  pub some : (get_or segments n no_segment).first < (get_or segments n no_segment).end
  pub within : (get_or segments n no_segment).before + ((get_or segments n no_segment).end - (get_or segments n no_segment).first) ≤ whole

pub inside_of : (segments : List Segment) (items : List ℕ) (n : ℕ) → AreSegments segments → ids_of (map segment_bounds segments) ≡ items → n < length segments → IsInside segments n (length items)
inside_of segments items n rule is here =
    let whole : (get_or segments n no_segment).before + ((get_or segments n no_segment).end - (get_or segments n no_segment).first) ≤ 0 + length (ids_of (map segment_bounds segments)) = within_view segments 0 n rule.counts here in
    let len = ap (λ (ids : List ℕ). length ids) is in
    let fit = well segments 0 0 n (omega arith) rule.order rule.counts here in
    record { some = fit.some; within = omega (arith, whole, len) }

-- from one place of a view on stand the items of these segments
abbrev pub AreSame : List ℕ → ℕ → List ℕ → List Segment → ℕ → Type 0
AreSame view first items segments n = (j k : ℕ) → j < n → HasPlace segments k j → get_or view (first + k) 0 ≡ get_or items k 0

-- what the code tests of a segment
pub same_more : (view : List ℕ) (first : ℕ) (items : List ℕ) (segments : List Segment) (n : ℕ) → Increase view → AreSegments segments → ids_of (map segment_bounds segments) ≡ items → n < length segments → first + length items ≤ length view
    → get_or view (first + (get_or segments n no_segment).before) 0 ≡ (get_or segments n no_segment).first
    → get_or view (first + (get_or segments n no_segment).before + ((get_or segments n no_segment).end - 1 - (get_or segments n no_segment).first)) 0 ≡ (get_or segments n no_segment).end - 1
    → AreSame view first items segments n → AreSame view first items segments (n + 1)
same_more view first items segments n increase rule is here inside at last before = λ j k below has.
    elim (here_or_before j below) [
      | inl e ↦
          let s = get_or segments n no_segment in
          let here_has : HasPlace segments k n = subst (λ i. HasPlace segments k i) e has in
          let fit = inside_of segments items n rule is here in
          let e : first + s.before + (k - s.before) ≡ first + k = omega (arith, here_has.low) in
          let row : get_or view (first + s.before + (k - s.before)) 0 ≡ s.first + (k - s.before) =
          row_item view (first + s.before) s.first (s.end - 1 - s.first) increase (omega (arith, fit.within, fit.some, inside)) at (last ∙ omega (arith, fit.some)) (k - s.before) (omega (arith, here_has.low, here_has.high)) in
          let item : get_or items k 0 ≡ s.first + (k - s.before) = ap (λ (ids : List ℕ). get_or ids k 0) (sym is) ∙ item_at_start segments n k 0 rule here here_has in
          ap (λ i. get_or view i 0) (sym e) ∙ (row ∙ sym item)
      | inr less ↦ before j k less has
    ]
  where
    here_or_before : (j : ℕ) → j < n + 1 → (j ≡ n) ⊎ (j < n)
    here_or_before j below = grind (arith, below)

-- they are the items of the view up to their end
pub same_all : (view : List ℕ) (first : ℕ) (items : List ℕ) (segments : List Segment) (n : ℕ) → AreSegments segments → ids_of (map segment_bounds segments) ≡ items → length segments ≤ n → first + length items ≤ length view → AreSame view first items segments n
    → slice_range view first (first + length items) ≡ items
same_all view first items segments n rule is all inside same =
    let e : first + length items - first ≡ length items = omega arith in
    let len : length (take (length items) (drop first view)) ≡ length items = length-take-le (length items) (drop first view) (omega (arith, length-drop first view, inside)) in
    let each : (k : ℕ) → k < length (take (length items) (drop first view)) → get_or (take (length items) (drop first view)) k 0 ≡ get_or items k 0 =
    λ k below.
    let short : k < length items = omega (arith, below, len) in
    let place = place_of segments 0 k rule.counts (omega arith) (let whole = ap (λ (ids : List ℕ). length ids) is in omega (arith, short, whole)) in
    get_or-take (length items) (drop first view) k 0 short ∙ (get_or-drop first view k 0 ∙ same place.number k (omega (arith, place.within, all)) place.has) in
    ap (λ n. take n (drop first view)) e ∙ ext_get_or 0 (take (length items) (drop first view)) items len each

-- ## What is known of a part

pub recalled_so : (arena : Contents) (view : List ℕ) (first : ℕ) (span : KnownSpan) → slice_range view first (first + length span.told) ≡ span.told → IsSpan arena span → first + span.count ≡ first + part_len arena None (drop first view)
recalled_so arena view first span same so =
    let n = first + length span.told - first in
    ap (λ k. first + k) (sym (len_behind arena None (drop first view) n (outside_at span.count) (subst (λ (xs : List ℕ). EndsBehind arena None xs (outside_at span.count)) (sym same) so.ends)))

-- it ends outside brackets
pub recalled_outside : (arena : Contents) (view : List ℕ) (first : ℕ) (span : KnownSpan) → slice_range view first (first + length span.told) ≡ span.told → IsSpan arena span → part_inside arena None (drop first view) ≡ None
recalled_outside arena view first span same so =
    let n = first + length span.told - first in
    inside_behind arena None (drop first view) n (outside_at span.count) (subst (λ (xs : List ℕ). EndsBehind arena None xs (outside_at span.count)) (sym same) so.ends)

pub noted_so : (arena : Contents) (view : List ℕ) (first end seen : ℕ) (told : List ℕ) → first < end → end < seen → seen ≤ length view → told ≡ slice_range view first seen → EndsBehind arena None (slice_range view first seen) (outside_at (end - first))
    → IsSpan arena (record { count = end - first; told = told })
noted_so arena view first end seen told some later inside is ends =
    let whole : length told ≡ seen - first = ap (λ (ids : List ℕ). length ids) is ∙ length-take-le (seen - first) (drop first view) (omega (arith, length-drop first view, inside, some, later)) in
    record {
      some = omega (arith, some);
      later = omega (arith, some, later, whole);
      ends = subst (λ (xs : List ℕ). EndsBehind arena None xs (outside_at (end - first))) (sym is) ends;
    }
