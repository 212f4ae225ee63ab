-- The classes of all items of a text.
use Rattle.std.proofs.Common.{◌≡◌, ◌∙◌, ℕ, zero, suc, ◌+◌, ◌-◌, ◌<◌, ◌≤◌, All, List, [], ◌∷◌, ◌++◌, length, take, drop}
use Rattle.std.proofs.Common.{get_or, map, refl, sym, ap, subst, arith, length-append, inl, inr, get_or-set_same}
use Rattle.std.proofs.Common.{get_or-set_other}
use Rattle.std.proofs.lemmas.Bool.{cases_eq}
use Rattle.std.proofs.lemmas.List.{append-nil, append_assoc, drop_more, ext_get_or, get_or-append-add}
use Rattle.std.proofs.lemmas.List.{get_or_append_left, length-map, map-append, map_more}
use Rattle.std.proofs.lemmas.List.FromFn.{length-range_with_len, get_or-range_with_len}
use Rattle.std.specs.List.{range_with_len}
use Rattle.std.specs.Prelude.{slice_get, slice_set}
use Rattle.c_chars.specs.declared.Dialect.{Dialect}
use Rattle.token_arena.specs.Gaps.{Contents}
use Rattle.token_arena.specs.Stored.{Stored}
use Rattle.token_arena.specs.declared.view.Segment.{Segment}
use Rattle.token_arena.specs.Segments.{ids_of, segment_bounds, AscendFrom, AreSegments, no_segment}
use Rattle.token_classes.specs.declared.class.TokenClass.{TokenClass}
use Rattle.token_classes.specs.declared.class.TokenClass.TheVariants.{If, Nothing}
use Rattle.item_classes.specs.Viewed.{class_or_nothing, item_class, item_classes, class_of}

among : (dialect : Dialect) (tokens : List Stored) (id : ℕ) (none : TokenClass) → id < length tokens
    → get_or (map (class_of dialect) tokens) id none ≡ class_or_nothing dialect (slice_get tokens id)
among dialect [] id none h = absurd (omega arith)
among dialect (token ∷ tokens) zero none h = refl
among dialect (token ∷ tokens) (suc id) none h = among dialect tokens id none (omega arith)

-- among the classes of all items each stands at the item's number
pub class_at : (arena : Contents) (id : ℕ) (none : TokenClass) → id < length arena.tokens → get_or (item_classes arena) id none ≡ item_class arena id
class_at arena id none h = among arena.dialect arena.tokens id none h

-- the classes of items in a row
pub row_classes : (arena : Contents) (first n : ℕ) → first + n ≤ length arena.tokens → take n (drop first (item_classes arena)) ≡ map (item_class arena) (range_with_len first n)
row_classes arena first zero h = refl
row_classes arena first (suc n) h =
    let all = item_classes arena in
    let within : first < length arena.tokens = omega (arith, h) in
    let count = length-map arena.tokens (class_of arena.dialect) in
    ap (take (suc n)) (drop_more all first If (omega (arith, within, count)))
    ∙ ap (λ class. class ∷ take n (drop (first + 1) all)) (class_at arena first If within)
    ∙ ap (λ classes. item_class arena first ∷ classes) (row_classes arena (first + 1) n (omega (arith, h)))

ids_more : (stretches : List (ℕ × ℕ)) (stretch : ℕ × ℕ) → ids_of (stretches ++ stretch ∷ []) ≡ ids_of stretches ++ range_with_len stretch.0 (stretch.1 - stretch.0)
ids_more [] stretch = append-nil (range_with_len stretch.0 (stretch.1 - stretch.0))
ids_more (first ∷ stretches) stretch =
    let row = range_with_len first.0 (first.1 - first.0) in
    ap (λ ids. row ++ ids) (ids_more stretches stretch) ∙ sym (append_assoc row (ids_of stretches) (range_with_len stretch.0 (stretch.1 - stretch.0)))

-- the classes of one more segment
pub segment_more : (arena : Contents) (segments : List Segment) (i : ℕ) → i < length segments
    → map (item_class arena) (ids_of (map segment_bounds (take (i + 1) segments)))
    ≡ map (item_class arena) (ids_of (map segment_bounds (take i segments)))
    ++ map (item_class arena) (range_with_len (get_or segments i no_segment).first ((get_or segments i no_segment).end - (get_or segments i no_segment).first))
segment_more arena segments i h =
    let before = map segment_bounds (take i segments) in
    let segment = get_or segments i no_segment in
    ap (λ stretches. map (item_class arena) (ids_of stretches)) (map_more segment_bounds segments i no_segment h)
    ∙ ap (map (item_class arena)) (ids_more before (segment_bounds segment))
    ∙ map-append (item_class arena) (ids_of before) (range_with_len segment.first (segment.end - segment.first))

-- a segment begins before its end, and no item of the view is at or behind a bound, so it ends there at the latest
pub record FitsBelow (n : ℕ) (segment : Segment) : Type 0 where
  pub some : segment.first < segment.end
  pub end : segment.end ≤ n

pub segment_fits : (n low : ℕ) (segments : List Segment) (i : ℕ) → AscendFrom low (map segment_bounds segments)
    → All (λ id. id < n) (ids_of (map segment_bounds segments)) → i < length segments → FitsBelow n (get_or segments i no_segment)
segment_fits n low [] i order within h = absurd (omega arith)
segment_fits n low (segment ∷ segments) zero order within h =
    let count = segment.end - segment.first in
    let row = range_with_len segment.first count in
    let later = ids_of (map segment_bounds segments) in
    let len : length row ≡ count = length-range_with_len segment.first count in
    let last : count - 1 < length row = omega (arith, len, order.1) in
    let whole = length-append row later in
    let at : get_or (row ++ later) (count - 1) 0 ≡ segment.first + (count - 1) = get_or_append_left row later 0 (count - 1) last ∙ get_or-range_with_len segment.first count (count - 1) 0 (omega (arith, order.1)) in
    let below : get_or (row ++ later) (count - 1) 0 < n = within (count - 1) 0 (omega (arith, last, whole)) in
    record { some = order.1; end = omega (arith, at, below, order.1) }
segment_fits n low (segment ∷ segments) (suc i) order within h =
    let row = range_with_len segment.first (segment.end - segment.first) in
    let later = ids_of (map segment_bounds segments) in
    let whole = length-append row later in
    let rest : All (λ id. id < n) later = λ k d inside. subst (λ id. id < n) (get_or-append-add row later k d) (within (length row + k) d (omega (arith, whole, inside))) in
    segment_fits n (segment.end + 1) segments i order.2 rest (omega arith)

pub viewed_fits : (n : ℕ) (ids : List ℕ) (segments : List Segment) (i : ℕ) → AreSegments segments → ids_of (map segment_bounds segments) ≡ ids
    → All (λ id. id < n) ids → i < length segments → FitsBelow n (get_or segments i no_segment)
viewed_fits n ids segments i rule is within h = segment_fits n 0 segments i rule.order (subst (λ seen. All (λ id. id < n) seen) (sym is) within) h

-- among classes of which those before an item are the text's, one more is that of the item
pub class_next : (arena : Contents) (classes : List TokenClass) (i : ℕ) (class : TokenClass) → i < length classes → i < length arena.tokens → class ≡ item_class arena i
    → ((k : ℕ) → k < i → get_or classes k Nothing ≡ get_or (item_classes arena) k Nothing)
    → (k : ℕ) → k < i + 1 → get_or (slice_set classes i class) k Nothing ≡ get_or (item_classes arena) k Nothing
class_next arena classes i class room within is before k h = elim (cases_eq k i) [
  | inl y ↦ rw y (get_or-set_same classes i class Nothing room ∙ is ∙ sym (class_at arena i Nothing within))
  | inr n ↦ get_or-set_other classes i k class Nothing n ∙ before k (omega arith)
]

-- classes of which each is that of its item are those of the text
pub all_classes : (arena : Contents) (classes : List TokenClass) (i : ℕ) → length classes ≡ length arena.tokens → length classes ≤ i
    → ((k : ℕ) → k < i → get_or classes k Nothing ≡ get_or (item_classes arena) k Nothing) → classes ≡ item_classes arena
all_classes arena classes i count done same =
    ext_get_or Nothing classes (item_classes arena) (count ∙ sym (length-map arena.tokens (class_of arena.dialect))) (λ k h. same k (omega (arith, h, done)))

-- the classes of a view of one segment stand in a row among those of the text
pub only_segment : (arena : Contents) (ids : List ℕ) (segments : List Segment) → AreSegments segments → ids_of (map segment_bounds segments) ≡ ids
    → All (λ id. id < length arena.tokens) ids → length segments ≡ 1
    → take ((get_or segments 0 no_segment).end - (get_or segments 0 no_segment).first) (drop (get_or segments 0 no_segment).first (item_classes arena)) ≡ map (item_class arena) ids
only_segment arena ids [] rule is within one = absurd (omega (arith, one))
only_segment arena ids (segment ∷ []) rule is within one =
    let count = segment.end - segment.first in
    let fits = viewed_fits (length arena.tokens) ids (segment ∷ []) 0 rule is within (omega arith) in
    row_classes arena segment.first count (omega (arith, fits.some, fits.end))
    ∙ ap (map (item_class arena)) (sym (append-nil (range_with_len segment.first count)) ∙ is)
only_segment arena ids (first ∷ second ∷ segments) rule is within one = absurd (omega (arith, one))
