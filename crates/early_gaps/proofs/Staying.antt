-- The gaps that stay, place by place.
use Rattle.std.proofs.Common.{◌≡◌, ◌∙◌, ◌||◌, ℕ, zero, suc, ◌+◌, ◌-◌, ◌<◌, ◌≤◌, ◌⊎◌, inl, inr, Bool, true, false, Some, None, List, get_or, refl, sym, ap, subst, arith}
use Rattle.std.specs.Prelude.{if◌then◌else◌, slice_get}
use Rattle.token_arena.specs.Gaps.{Contents}
use Rattle.line_gaps.specs.InputColumns.{kept_slot}
use Rattle.replacements.specs.Breaks.{has_new_line_at}
use Rattle.replacements.specs.Sound.{item_before}
use Rattle.early_gaps.specs.Columns.{column_at}
use Rattle.early_gaps.specs.Dead.{is_beside_dead, is_dead_item}
use Rattle.early_gaps.specs.Joined.{is_backslash, is_beside_joined, is_joined, is_behind_joined}
use Rattle.early_gaps.specs.Kept.{IsBehind, IsPlain, Passes, is_kept, kept_at}
use Rattle.early_gaps.specs.declared.behind.Behind.{Behind}

-- the item at a place is the one before the next place
pub next_is : (arena : Contents) (place : ℕ) (behind : Behind) → behind.dead ≡ is_dead_item arena place → behind.joined ≡ is_joined arena place → behind.backslash ≡ is_backslash (slice_get arena.tokens place)
    → IsBehind arena (place + 1) behind
next_is arena place behind dead joined backslash =
    let e : place + 1 ≡ suc place = omega arith in
    rw e (record { dead = dead; joined = joined; backslash = backslash })

either_false : (b : Bool) → false ≡ (if b then false else false)
either_false true = refl
either_false false = refl

-- what the item before a place tells of the row behind it
pub joined_is : (arena : Contents) (place : ℕ) → is_joined arena place ≡ (if has_new_line_at arena place then is_backslash (item_before arena.tokens place) else is_behind_joined arena place)
joined_is arena zero = either_false (has_new_line_at arena 0)
joined_is arena (suc place) = refl

pub joined_by : (arena : Contents) (place : ℕ) (behind : Behind) → IsBehind arena place behind → (if has_new_line_at arena place then behind.backslash else behind.joined) ≡ is_joined arena place
joined_by arena place behind is =
    ap (λ (b : Bool). if has_new_line_at arena place then b else behind.joined) is.backslash
    ∙ (ap (λ (b : Bool). if has_new_line_at arena place then is_backslash (item_before arena.tokens place) else b) is.joined ∙ sym (joined_is arena place))

-- behind no backslash no row is joined
pub not_joined : (arena : Contents) (place : ℕ) (behind : Behind) → IsBehind arena place behind → behind.backslash ≡ false → behind.joined ≡ false → false ≡ is_joined arena place
not_joined arena place behind is backslash joined =
    either_false (has_new_line_at arena place)
    ∙ (ap (λ (b : Bool). if has_new_line_at arena place then b else false) (sym backslash)
    ∙ (ap (λ (b : Bool). if has_new_line_at arena place then behind.backslash else b) (sym joined) ∙ joined_by arena place behind is))

-- whether a gap stays is told by the items on its sides
pub stays_by : (arena : Contents) (frozen : List Bool) (place : ℕ) (mark : Bool) (behind here : Behind) → mark ≡ get_or frozen place false → IsBehind arena place behind → IsBehind arena (place + 1) here
    → (mark || ((here.dead || behind.dead) || (here.joined || behind.joined))) ≡ is_kept arena frozen place
stays_by arena frozen place mark behind here marked before after =
    let e : place + 1 ≡ suc place = omega arith in
    let at : IsBehind arena (suc place) here = rw e at after in
    let dead : here.dead ≡ is_dead_item arena place = at.dead in
    let joined : here.joined ≡ is_joined arena place = at.joined in
    rw (marked, dead, joined, before.dead, before.joined) refl

-- ## Marks

-- what is kept follows from what is marked
pub kept_by : (tab : ℕ) (arena : Contents) (marks frozen : List Bool) (place : ℕ) → get_or marks place false ≡ get_or frozen place false → kept_at tab arena marks place ≡ kept_at tab arena frozen place
kept_by tab arena marks frozen place same =
    ap (λ (b : Bool). if b || (is_beside_dead arena place || is_beside_joined arena place) then Some (kept_slot (column_at tab arena place)) else None) same

-- ## Plain items

-- behind a plain item stands another
pub passed_on : (arena : Contents) (place : ℕ) (mark : Bool) (behind : Behind) → IsPlain behind → IsBehind arena place behind → Passes arena mark place → IsBehind arena (place + 1) behind
passed_on arena place mark behind plain is passes =
    next_is arena place behind (plain.dead ∙ sym passes.dead) (plain.joined ∙ not_joined arena place behind is plain.backslash plain.joined) (plain.backslash ∙ sym passes.backslash)

-- and the gap between the two doesn't stay
passed_gap : (arena : Contents) (frozen : List Bool) (place : ℕ) (mark : Bool) (behind : Behind) → mark ≡ get_or frozen place false → IsPlain behind → IsBehind arena place behind → Passes arena mark place
    → is_kept arena frozen place ≡ false
passed_gap arena frozen place mark behind marked plain is passes =
    sym (stays_by arena frozen place mark behind behind marked is (passed_on arena place mark behind plain is passes)) ∙ rw (passes.mark, plain.dead, plain.joined) refl

before_or : (at place : ℕ) → place < at + 1 → (place < at) ⊎ (place ≡ at)
before_or at place within = grind (arith, within)

either_side : (at place : ℕ) → (place < at) ⊎ (at ≤ place)
either_side at place = grind arith

pub none_further : (arena : Contents) (frozen : List Bool) (from at : ℕ) (mark : Bool) (behind : Behind) → mark ≡ get_or frozen at false → IsPlain behind → IsBehind arena at behind → Passes arena mark at
    → ((k : ℕ) → from ≤ k → k < at → is_kept arena frozen k ≡ false) → (k : ℕ) → from ≤ k → k < at + 1 → is_kept arena frozen k ≡ false
none_further arena frozen from at mark behind marked plain is passes none k low high = elim (before_or at k high) [
  | inl before ↦ none k low before
  | inr here ↦ rw here (passed_gap arena frozen at mark behind marked plain is passes)
]

-- one more gap isn't marked
pub one_unmarked : (frozen : List Bool) (first next : ℕ) → get_or frozen (first + next) false ≡ false → ((k : ℕ) → first ≤ k → k < first + next → get_or frozen k false ≡ false)
    → (k : ℕ) → first ≤ k → k < first + (next + 1) → get_or frozen k false ≡ false
one_unmarked frozen first next mark before k low high = elim (before_or (first + next) k (omega (arith, high))) [
  | inl earlier ↦ before k low earlier
  | inr same ↦ rw same mark
]

-- one more item isn't dead
pub one_live : (arena : Contents) (first next : ℕ) → is_dead_item arena (first + next) ≡ false → ((k : ℕ) → first ≤ k → k < first + next → is_dead_item arena k ≡ false)
    → (k : ℕ) → first ≤ k → k < first + (next + 1) → is_dead_item arena k ≡ false
one_live arena first next dead before k low high = elim (before_or (first + next) k (omega (arith, high))) [
  | inl earlier ↦ before k low earlier
  | inr same ↦ rw same dead
]

-- nor is it a backslash
pub one_other : (arena : Contents) (first next : ℕ) → is_backslash (slice_get arena.tokens (first + next)) ≡ false
    → ((k : ℕ) → first ≤ k → k < first + next → is_backslash (slice_get arena.tokens k) ≡ false)
    → (k : ℕ) → first ≤ k → k < first + (next + 1) → is_backslash (slice_get arena.tokens k) ≡ false
one_other arena first next other before k low high = elim (before_or (first + next) k (omega (arith, high))) [
  | inl earlier ↦ before k low earlier
  | inr same ↦ rw same other
]

-- one more place is passed
pub one_passed : (arena : Contents) (frozen : List Bool) (from at : ℕ) (mark : Bool) → mark ≡ get_or frozen at false → ((k : ℕ) → from ≤ k → k < at → Passes arena (get_or frozen k false) k) → Passes arena mark at
    → (k : ℕ) → from ≤ k → k < at + 1 → Passes arena (get_or frozen k false) k
one_passed arena frozen from at mark marked before here k low high = elim (before_or at k high) [
  | inl earlier ↦ before k low earlier
  | inr same ↦ rw same (subst (λ b. Passes arena b at) marked here)
]

-- eight more are
pub eight_passed : (arena : Contents) (frozen : List Bool) (from at : ℕ) → ((k : ℕ) → from ≤ k → k < at → Passes arena (get_or frozen k false) k) → ((k : ℕ) → at ≤ k → k < at + 8 → Passes arena (get_or frozen k false) k)
    → (k : ℕ) → from ≤ k → k < at + 8 → Passes arena (get_or frozen k false) k
eight_passed arena frozen from at before behind k low high = elim (either_side at k) [
  | inl earlier ↦ before k low earlier
  | inr later ↦ behind k later high
]

-- a plain item is passed at each of so many places
pub passed_all : (arena : Contents) (frozen : List Bool) (place n : ℕ) (behind : Behind) → IsPlain behind → IsBehind arena place behind
    → ((k : ℕ) → place ≤ k → k < place + n → Passes arena (get_or frozen k false) k)
    → IsBehind arena (place + n) behind × ((k : ℕ) → place ≤ k → k < place + n → is_kept arena frozen k ≡ false)
passed_all arena frozen place zero behind plain is all =
    let here : place + 0 ≡ place = omega arith in
    (rw here is, λ k low high. absurd (omega (arith, low, high)))
passed_all arena frozen place (suc n) behind plain is all =
    let before = passed_all arena frozen place n behind plain is (λ k low high. all k low (omega (arith, high))) in
    let next : place + suc n ≡ place + n + 1 = omega arith in
    let last = all (place + n) (omega arith) (omega arith) in (
      rw next (passed_on arena (place + n) (get_or frozen (place + n) false) behind plain before.0 last),
      λ k low high. none_further arena frozen place (place + n) (get_or frozen (place + n) false) behind refl plain before.0 last before.1 k low (omega (arith, high)),
    )

-- the same up to a later place
pub passed_up_to : (arena : Contents) (frozen : List Bool) (place end : ℕ) (behind : Behind) → place ≤ end → IsPlain behind → IsBehind arena place behind
    → ((k : ℕ) → place ≤ k → k < end → Passes arena (get_or frozen k false) k)
    → IsBehind arena end behind × ((k : ℕ) → place ≤ k → k < end → is_kept arena frozen k ≡ false)
passed_up_to arena frozen place end behind order plain is all =
    let e : place + (end - place) ≡ end = omega (arith, order) in
    let passed = passed_all arena frozen place (end - place) behind plain is (λ k low high. all k low (omega (arith, high, order))) in
    (subst (λ n. IsBehind arena n behind) e passed.0, λ k low high. passed.1 k low (omega (arith, high, order)))

-- where a gap doesn't stay, nothing is decided
pub none_kept : (tab : ℕ) (arena : Contents) (frozen : List Bool) (place : ℕ) → is_kept arena frozen place ≡ false → kept_at tab arena frozen place ≡ None
none_kept tab arena frozen place none = ap (λ (b : Bool). if b then Some (kept_slot (column_at tab arena place)) else None) none
