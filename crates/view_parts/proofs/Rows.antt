-- Places of a view whose items stand in a row.
use Rattle.std.proofs.Common.{◌≡◌, ◌∙◌, ◌⊎◌, inl, inr, ℕ, zero, suc, ◌+◌, ◌-◌, ◌<◌, ◌≤◌, List, [], ◌∷◌, length, take, drop, get_or, refl, sym, ap, subst, arith, get_or-set_same, get_or-set_other}
use Rattle.std.specs.Prelude.{All, ◌^◌, slice_range, slice_set, replicate, map, None}
use Rattle.std.specs.List.{range_with_len}
use Rattle.std.proofs.lemmas.List.{get_or-drop, get_or-take, length-drop}
use Rattle.std.proofs.lemmas.List.FromFn.{get_or-range_with_len}
use Rattle.token_arena.specs.Gaps.{Contents}
use Rattle.token_arena.specs.Ids.{Increase, IncreaseFrom}
use Rattle.token_arena.specs.declared.view.Segment.{Segment}
use Rattle.token_arena.specs.Segments.{ids_of, segment_bounds, AreSegments, CountFrom, HasPlace, no_segment}
use Rattle.token_arena.proofs.SegmentLemmas.{item_at_start, length_items}
use Rattle.view_parts.specs.declared.known.KnownEnd.{KnownEnd}
use Rattle.view_parts.specs.declared.known.KnownEnd.TheVariants.{Unknown}
use Rattle.view_parts.specs.declared.known.KnownRow.{KnownRow}
use Rattle.view_parts.specs.Known.{IsKnown, IsKnownRow, AreKnown}
use Rattle.view_parts.specs.declared.row.Row.{Row}
use Rattle.view_parts.specs.Rows.{IsRow}
use Rattle.view_parts.specs.Parts.{part_inside, part_len, EndsBehind}
use Rattle.view_parts.proofs.Walked.{inside_behind, len_behind, outside_at}

pub at_least : (low : ℕ) (ids : List ℕ) (i : ℕ) → IncreaseFrom low ids → i < length ids → low + i ≤ get_or ids i 0
at_least low [] i increase below = absurd (omega (arith, below))
at_least low (id ∷ ids) zero increase below = omega (arith, increase.0)
at_least low (id ∷ ids) (suc i) increase below = (let rest = at_least (id + 1) ids i increase.1 (omega (arith, below)) in omega (arith, rest, increase.0))

-- so many items, of which the last is so far behind the first, stand in a row
row : (low a n : ℕ) (ids : List ℕ) → IncreaseFrom low ids → n < length ids → get_or ids 0 0 ≡ a → get_or ids n 0 ≡ a + n → take (suc n) ids ≡ range_with_len a (suc n)
row low a n [] increase below first last = absurd (omega (arith, below))
row low a zero (id ∷ ids) increase below first last = ap (λ x. x ∷ []) first
row low a (suc n) (id ∷ ids) increase below first last =
    let short : n < length ids = omega (arith, below) in
    let low_first = at_least (id + 1) ids 0 increase.1 (omega (arith, short)) in
    let next : get_or ids 0 0 ≡ a + 1 = second ids short increase.1 last in
    let end : get_or ids n 0 ≡ (a + 1) + n = omega (arith, last) in
    ap (λ (xs : List ℕ). id ∷ xs) (row (id + 1) (a + 1) n ids increase.1 short next end) ∙ ap (λ x. x ∷ range_with_len (a + 1) (suc n)) first
  where
    second : (ids : List ℕ) → n < length ids → IncreaseFrom (id + 1) ids → get_or ids n 0 ≡ a + suc n → get_or ids 0 0 ≡ a + 1
    second [] short more at = absurd (omega (arith, short))
    second (b ∷ ids) short more at =
        let far : b + n ≤ get_or (b ∷ ids) n 0 = at_least b (b ∷ ids) n (omega arith, more.1) short in
        omega (arith, far, at, more.0, first)

dropped : (low n : ℕ) (ids : List ℕ) → IncreaseFrom low ids → (from : ℕ) × IncreaseFrom from (drop n ids)
dropped low zero ids increase = (low, increase)
dropped low (suc n) [] increase = (low, tt)
dropped low (suc n) (id ∷ ids) increase = dropped (id + 1) n ids increase.1

-- from one place of a view on
pub row_from : (view : List ℕ) (first id behind : ℕ) → Increase view → first + behind < length view → get_or view first 0 ≡ id → get_or view (first + behind) 0 ≡ id + behind → take (suc behind) (drop first view) ≡ range_with_len id (suc behind)
row_from view first id behind increase below at last =
    let rest = dropped 0 first view increase in
    let e : first + 0 ≡ first = omega arith in
    row rest.0 id behind (drop first view) rest.1 (omega (arith, length-drop first view, below)) (get_or-drop first view 0 0 ∙ (ap (λ n. get_or view n 0) e ∙ at)) (get_or-drop first view behind 0 ∙ last)

pub row_item : (view : List ℕ) (first id behind : ℕ) → Increase view → first + behind < length view → get_or view first 0 ≡ id → get_or view (first + behind) 0 ≡ id + behind → (k : ℕ) → k ≤ behind → get_or view (first + k) 0 ≡ id + k
row_item view first id behind increase below at last k low =
    let same = row_from view first id behind increase below at last in
    sym (get_or-drop first view k 0)
    ∙ (sym (get_or-take (suc behind) (drop first view) k 0 (omega (arith, low)))
    ∙ (ap (λ (ids : List ℕ). get_or ids k 0) same ∙ get_or-range_with_len id (suc behind) k 0 (omega (arith, low))))

-- ## What is known of a part

recalled_ends : (arena : Contents) (view : List ℕ) (first id behind : ℕ) (known : KnownRow) → Increase view → first + behind < length view → get_or view first 0 ≡ id → get_or view (first + behind) 0 ≡ known.seen - 1 → behind ≡ known.seen - 1 - id
    → IsKnownRow arena id known → EndsBehind arena None (take (known.seen - id) (drop first view)) (outside_at (known.end - id))
recalled_ends arena view first id behind known increase below at last is so =
    let n : suc behind ≡ known.seen - id = omega (arith, is, so.some, so.later) in
    let far : get_or view (first + behind) 0 ≡ id + behind = omega (arith, last, is, so.some, so.later) in
    let same : range_with_len id (known.seen - id) ≡ take (known.seen - id) (drop first view) = subst (λ k. range_with_len id k ≡ take k (drop first view)) n (sym (row_from view first id behind increase below at far)) in
    subst (λ (xs : List ℕ). EndsBehind arena None xs (outside_at (known.end - id))) same so.ends

pub recalled_len : (arena : Contents) (view : List ℕ) (first id behind : ℕ) (known : KnownRow) → Increase view → first + behind < length view → get_or view first 0 ≡ id → get_or view (first + behind) 0 ≡ known.seen - 1 → behind ≡ known.seen - 1 - id
    → IsKnownRow arena id known → first + (known.end - id) ≡ first + part_len arena None (drop first view)
recalled_len arena view first id behind known increase below at last is so =
    ap (λ k. first + k) (sym (len_behind arena None (drop first view) (known.seen - id) (outside_at (known.end - id)) (recalled_ends arena view first id behind known increase below at last is so)))

-- it ends outside brackets
pub recalled_outside : (arena : Contents) (view : List ℕ) (first id behind : ℕ) (known : KnownRow) → Increase view → first + behind < length view → get_or view first 0 ≡ id → get_or view (first + behind) 0 ≡ known.seen - 1 → behind ≡ known.seen - 1 - id
    → IsKnownRow arena id known → part_inside arena None (drop first view) ≡ None
recalled_outside arena view first id behind known increase below at last is so =
    inside_behind arena None (drop first view) (known.seen - id) (outside_at (known.end - id)) (recalled_ends arena view first id behind known increase below at last is so)

pub noted_end : (arena : Contents) (view : List ℕ) (first id end seen last : ℕ) → Increase view → first < end → end < seen → seen ≤ length view → get_or view first 0 ≡ id → get_or view (seen - 1) 0 ≡ last → id ≤ last → last - id ≡ seen - 1 - first
    → EndsBehind arena None (slice_range view first seen) (outside_at (end - first)) → IsKnownRow arena id (record { end = id + (end - first); seen = last + 1 })
noted_end arena view first id end seen last increase some later inside at at_last low is ends =
    let behind = seen - 1 - first in
    let e : first + behind ≡ seen - 1 = omega (arith, some, later) in
    let n : suc behind ≡ seen - first = omega (arith, some, later) in
    let m : suc behind ≡ (last + 1) - id = omega (arith, low, is) in
    let far : get_or view (first + behind) 0 ≡ id + behind = ap (λ k. get_or view k 0) e ∙ (at_last ∙ omega (arith, low, is)) in
    let same : take (suc behind) (drop first view) ≡ range_with_len id (suc behind) = row_from view first id behind increase (omega (arith, inside, some, later)) at far in
    let told : EndsBehind arena None (take (suc behind) (drop first view)) (outside_at (end - first)) = subst (λ k. EndsBehind arena None (take k (drop first view)) (outside_at (end - first))) (sym n) ends in
    let row_told : EndsBehind arena None (range_with_len id ((last + 1) - id)) (outside_at (end - first)) = subst (λ k. EndsBehind arena None (range_with_len id k) (outside_at (end - first))) m (subst (λ (xs : List ℕ). EndsBehind arena None xs (outside_at (end - first))) same told) in
    let c : end - first ≡ (id + (end - first)) - id = omega arith in
    record {
      some = omega (arith, some);
      later = omega (arith, some, later, low, is);
      ends = subst (λ k. EndsBehind arena None (range_with_len id ((last + 1) - id)) (outside_at k)) c row_told;
    }

pub here_or_not : (at id : ℕ) → (at ≡ id) ⊎ (at ≡ id → ⊥)
here_or_not at id = grind arith

pub noted_all : (arena : Contents) (knowns : List KnownEnd) (at : ℕ) (known : KnownEnd) → IsKnown arena at known → AreKnown arena knowns → at < length knowns → length (slice_set knowns at known) ≡ length knowns → AreKnown arena (slice_set knowns at known)
noted_all arena knowns at known so all within whole = λ id below.
    elim (here_or_not at id) [
      | inl e ↦
          let is : get_or (slice_set knowns at known) id Unknown ≡ known = ap (λ k. get_or (slice_set knowns at known) k Unknown) (sym e) ∙ get_or-set_same knowns at known Unknown within in
          subst (λ (k : KnownEnd). IsKnown arena id k) (sym is) (subst (λ n. IsKnown arena n known) e so)
      | inr other ↦
          let is : get_or (slice_set knowns at known) id Unknown ≡ get_or knowns id Unknown = get_or-set_other knowns at id known Unknown (λ e. other (sym e)) in
          subst (λ (k : KnownEnd). IsKnown arena id k) (sym is) (all id (omega (arith, below, whole)))
    ]

-- nothing is known yet
pub none_known : (arena : Contents) (n : ℕ) (knowns : List KnownEnd) → knowns ≡ replicate n Unknown → AreKnown arena knowns
none_known arena n knowns is = λ id below.
    let none : get_or knowns id Unknown ≡ Unknown = ap (λ (ks : List KnownEnd). get_or ks id Unknown) is ∙ all_none n id in
    subst (λ (k : KnownEnd). IsKnown arena id k) (sym none) tt
  where
    all_none : (n id : ℕ) → get_or (replicate n Unknown) id Unknown ≡ Unknown
    all_none zero id = refl
    all_none (suc n) zero = refl
    all_none (suc n) (suc id) = all_none n id

-- ## Segments

-- no segment ends behind the view
pub within_view : (segments : List Segment) (n j : ℕ) → CountFrom n segments → j < length segments
    → (get_or segments j no_segment).before + ((get_or segments j no_segment).end - (get_or segments j no_segment).first) ≤ n + length (ids_of (map segment_bounds segments))
within_view [] n j counted within = absurd (omega (arith, within))
within_view (s ∷ segments) n zero counted within = (let len = length_items (segment_bounds s) (map segment_bounds segments) in omega (arith, len, counted.0))
within_view (s ∷ segments) n (suc j) counted within =
    let rest = within_view segments (n + (s.end - s.first)) j counted.1 (omega (arith, within)) in
    let len = length_items (segment_bounds s) (map segment_bounds segments) in
    omega (arith, rest, len)

-- what a view has from a place of a segment on
pub record IsStretch (view : List ℕ) (place id end : ℕ) : Type 0 where
  pub some : id < end
  pub within : place + (end - id) ≤ length view
  pub row : (k : ℕ) → k < end - id → get_or view (place + k) 0 ≡ id + k

pub segment_row : (segments : List Segment) (view : List ℕ) (j place id : ℕ) → AreSegments segments → ids_of (map segment_bounds segments) ≡ view → j < length segments → HasPlace segments place j → get_or view place 0 ≡ id
    → IsStretch view place id (get_or segments j no_segment).end
segment_row segments view j place id rule is within has at =
    let s = get_or segments j no_segment in
    let whole : s.before + (s.end - s.first) ≤ 0 + length (ids_of (map segment_bounds segments)) = within_view segments 0 j rule.counts within in
    let len : length (ids_of (map segment_bounds segments)) ≡ length view = ap (λ (ids : List ℕ). length ids) is in
    let item : (k : ℕ) → HasPlace segments k j → get_or view k 0 ≡ s.first + (k - s.before) = λ k here. ap (λ (ids : List ℕ). get_or ids k 0) (sym is) ∙ item_at_start segments j k 0 rule within here in
    let first : id ≡ s.first + (place - s.before) = sym at ∙ item place has in
    record {
      some = omega (arith, first, has.low, has.high);
      within = omega (arith, first, whole, len, has.low, has.high);
      row = λ k below. item (place + k) (record { low = omega (arith, has.low); high = omega (arith, below, first, has.low, has.high) }) ∙ omega (arith, first, has.low);
    }

-- the row of a place: an item and so many behind it
pub row_of : (view : List ℕ) (place id behind : ℕ) (row : Row) → Increase view → place + behind < length view → id + behind < 2 ^ 32 → get_or view place 0 ≡ id → ((k : ℕ) → k ≤ behind → get_or view (place + k) 0 ≡ id + k)
    → row ≡ record { shift = id - place; end = place + behind + 1 } → IsRow view place row
row_of view place id behind row increase inside small at items is =
    let low : 0 + place ≤ get_or view place 0 = at_least 0 view place increase (omega (arith, inside)) in
    subst (λ (r : Row). IsRow view place r) (sym is) (record {
      inside = omega (arith, inside);
      fits = omega (arith, small, low, at);
      items = λ k after before.
          let e : place + (k - place) ≡ k = omega (arith, after) in
          ap (λ j. get_or view j 0) (sym e) ∙ (items (k - place) (omega (arith, after, before)) ∙ omega (arith, after, low, at));
    })

pub row_later : (view : List ℕ) (place later : ℕ) (row : Row) → place ≤ later → IsRow view place row → IsRow view later row
row_later view place later row low is = record { inside = is.inside; fits = is.fits; items = λ k after before. is.items k (omega (arith, low, after)) before }

-- no place stands behind its item
pub place_low : (view : List ℕ) (place id : ℕ) → Increase view → place < length view → get_or view place 0 ≡ id → place ≤ id
place_low view place id increase here at = (let low : 0 + place ≤ get_or view place 0 = at_least 0 view place increase here in omega (arith, low, at))

-- the items of a row are items of the text
pub row_stored : (view : List ℕ) (place items : ℕ) (row : Row) → All (λ id. id < items) view → place < row.end → IsRow view place row → row.end + row.shift ≤ items
row_stored view place items row within here is =
    let last : get_or view (row.end - 1) 0 ≡ (row.end - 1) + row.shift = is.items (row.end - 1) (omega (arith, here)) (omega (arith, here)) in
    let below : get_or view (row.end - 1) 0 < items = within (row.end - 1) 0 (omega (arith, here, is.inside)) in
    omega (arith, last, below, here)

-- the items of a row from a place on, as those of a view behind the first one
pub row_items : (view : List ℕ) (first place n id : ℕ) (row : Row) → IsRow view (first + place) row → id ≡ first + place + row.shift → first + place + n < row.end → (k : ℕ) → k ≤ n → get_or (drop first view) (place + k) 0 ≡ id + k
row_items view first place n id row is at within k low =
    let e : first + (place + k) ≡ first + place + k = omega arith in
    get_or-drop first view (place + k) 0 ∙ (ap (λ j. get_or view j 0) e ∙ (is.items (first + place + k) (omega arith) (omega (arith, low, within)) ∙ omega (arith, at)))

-- the items of a view from a place on increase
pub drop_increase : (first : ℕ) (view : List ℕ) → Increase view → Increase (drop first view)
drop_increase first view increase = (let rest = dropped 0 first view increase in from_zero rest.0 (drop first view) rest.1)
  where
    from_zero : (low : ℕ) (ids : List ℕ) → IncreaseFrom low ids → IncreaseFrom 0 ids
    from_zero low [] increase = tt
    from_zero low (id ∷ ids) increase = (omega arith, increase.1)
