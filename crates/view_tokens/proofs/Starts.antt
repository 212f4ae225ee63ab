-- Where items that follow one another begin.
use Rattle.std.proofs.Common.{◌≡◌, ◌≢◌, ◌∙◌, ℕ, zero, suc, ◌+◌, ◌-◌, ◌<◌, ◌≤◌, ◌==◌, ◌&&◌, not, nat_lt, Bool, true, false, List, length, map, get_or, refl, sym, ap, arith}
use Rattle.std.specs.Prelude.{IsTrue, ◌↔◌}
use Rattle.std.proofs.lemmas.Bool.{eqb-true, eq-eqb, lt-ltb, false≢true}
use Rattle.token_arena.specs.declared.view.Segment.{Segment}
use Rattle.token_arena.specs.Segments.{ids_of, segment_bounds, AreSegments, HasPlace, no_segment}
use Rattle.token_arena.proofs.SegmentLemmas.{item_at_start, parted}
use Rattle.token_arena.specs.Gaps.{Contents}
use Rattle.item_classes.specs.Items.{stands_apart}
use Rattle.item_classes.specs.Viewed.{AreWithin}
use Rattle.view_tokens.specs.declared.start.RowStart.{RowStart}
use Rattle.view_tokens.specs.Inside.{IsRowStart}

-- what is so exactly where two numbers differ
told_apart : (b e : Bool) (x y : ℕ) → e ≡ (x == y) → (IsTrue b → x ≢ y) → (x ≢ y → IsTrue b) → b ≡ not e
told_apart true true x y is to from = absurd (to refl (eqb-true x y (sym is)))
told_apart true false x y is to from = refl
told_apart false true x y is to from = refl
told_apart false false x y is to from = absurd (false≢true (from (λ same. false≢true (is ∙ eq-eqb x y same))))

-- a place behind the first
behind_first : (k : ℕ) (b : Bool) → b ≡ (nat_lt 0 (suc k) && b)
behind_first k b = ap (λ (t : Bool). t && b) (sym (lt-ltb 0 (suc k) (omega arith)))

-- whether a directive stands before a place
pub apart_told : (b : Bool) (ids : List ℕ) (k : ℕ) → IsTrue b ↔ ((0 < k) × (get_or ids k 0 ≢ get_or ids (k - 1) 0 + 1)) → b ≡ stands_apart ids k
apart_told true ids zero says = absurd (omega (arith, (says.0 refl).0))
apart_told false ids zero says = refl
apart_told b ids (suc k) says =
    let some : 0 < suc k = omega arith in
    let last = get_or ids (suc k - 1) 0 + 1 in
    told_apart b (get_or ids (suc k) 0 == last) (get_or ids (suc k) 0) last refl (λ t. (says.0 t).1) (λ differ. says.1 (some, differ))
    ∙ behind_first k (not (get_or ids (suc k) 0 == last))

-- it stands there where the place is the first of its segment
pub apart_in : (segments : List Segment) (i k before : ℕ) → AreSegments segments → i < length segments → HasPlace segments k i → before ≡ (get_or segments i no_segment).before
    → (nat_lt 0 k && before == k) ≡ stands_apart (ids_of (map segment_bounds segments)) k
apart_in segments i zero before rule within has is = refl
apart_in segments i (suc k) before rule within has is =
    let some : 0 < suc k = omega arith in
    let ids : List ℕ = ids_of (map segment_bounds segments) in
    sym (behind_first k (before == suc k))
    ∙ (ap (λ b. b == suc k) is ∙ apart_told ((get_or segments i no_segment).before == suc k) ids (suc k) (parted segments ids i (suc k) refl rule within has some))

-- so many items from a place on follow one another in one segment
pub items_in : (segments : List Segment) (i place count skipped : ℕ) → AreSegments segments → i < length segments → place ≡ (get_or segments i no_segment).before + skipped
    → skipped + count ≤ (get_or segments i no_segment).end - (get_or segments i no_segment).first
    → (j : ℕ) → j < count → get_or (ids_of (map segment_bounds segments)) (place + j) 0 ≡ (get_or segments i no_segment).first + skipped + j
items_in segments i place count skipped rule within from fits j below =
    let there : HasPlace segments (place + j) i = record { low = omega (arith, from); high = omega (arith, from, fits, below) } in
    let at = item_at_start segments i (place + j) 0 rule within there in
    omega (arith, at, from)

-- one item by itself
pub only_item : (ids : List ℕ) (place id : ℕ) → get_or ids place 0 ≡ id → (j : ℕ) → j < 1 → get_or ids (place + j) 0 ≡ id + j
only_item ids place id at j below =
    let here : place + j ≡ place = omega (arith, below) in
    ap (λ n. get_or ids n 0) here ∙ (at ∙ omega (arith, below))

-- items of a view are items of the text
pub start_within : (arena : Contents) (ids : List ℕ) (place count : ℕ) (start : RowStart) → AreWithin arena ids → place + count ≤ length ids → 0 < count → count ≤ start.count → IsRowStart ids place start → start.id + count ≤ length arena.tokens
start_within arena ids place count start within fits some few is =
    let at : get_or ids (place + (count - 1)) 0 ≡ start.id + (count - 1) = is.items (count - 1) (omega (arith, some, few)) in
    let below : get_or ids (place + (count - 1)) 0 < length arena.tokens = within (place + (count - 1)) 0 (omega (arith, some, fits)) in
    omega (arith, at, below, some)

pub first_item : (ids : List ℕ) (place : ℕ) (start : RowStart) → IsRowStart ids place start → get_or ids place 0 ≡ start.id
first_item ids place start is =
    let here : place ≡ place + 0 = omega arith in
    ap (λ n. get_or ids n 0) here ∙ (is.items 0 (omega (arith, is.some)) ∙ omega arith)
