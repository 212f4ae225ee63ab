-- Parts that follow one another in a row.
use Rattle.std.proofs.Common.{◌≡◌, ◌∙◌, ◌==◌, ◌⊎◌, inl, inr, Bool, true, false, max, ℕ, zero, suc, ◌+◌, ◌-◌, ◌<◌, ◌≤◌, Option, Some, None, List, [], ◌∷◌, ◌++◌, length, take, drop, get_or, append_assoc, refl, sym, ap, subst, arith}
use Rattle.std.specs.Prelude.{if◌then◌else◌, slice_set}
use Rattle.std.specs.List.{range_with_len}
use Rattle.std.specs.Bool.{OnFalse, OnTrue}
use Rattle.std.proofs.lemmas.Bool.{OnFalse_at, OnTrue_at, eqb-true}
use Rattle.std.proofs.lemmas.List.{get_or_past, length-set}
use Rattle.token_arena.specs.Gaps.{Contents}
use Rattle.token_arena.specs.Ids.{Increase}
use Rattle.view_parts.specs.declared.known.KnownEnd.{KnownEnd}
use Rattle.view_parts.specs.declared.known.KnownEnd.TheVariants.{Unknown, InRow, InRows, InSpan}
use Rattle.view_parts.specs.declared.known.KnownRow.{KnownRow}
use Rattle.view_parts.specs.Known.{IsKnown, AreKnown, FollowInRow, AreKnownRows, row_of, joined, joined_rows}
use Rattle.view_parts.specs.Parts.{PartStop, count_or, end_of_part, inside_of, stop_from, EndsBehind, FollowUpTo, ArePartsUpTo, Ended}
use Rattle.part_walk.specs.Places.{Place}
use Rattle.view_parts.proofs.Rows.{row_from, row_item, noted_all}
use Rattle.view_parts.proofs.Walked.{end_behind, outside_at}

pub range_cut : (a m n k : ℕ) → k ≡ m + n → range_with_len a k ≡ range_with_len a m ++ range_with_len (a + m) n
range_cut a zero n k e =
    let all : k ≡ n = omega (arith, e) in
    let here : a ≡ a + 0 = omega arith in
    ap (λ j. range_with_len a j) all ∙ ap (λ b. range_with_len b n) here
range_cut a (suc m) n zero e = absurd (omega (arith, e))
range_cut a (suc m) n (suc k) e =
    let here : (a + 1) + m ≡ a + suc m = omega arith in
    ap (λ (xs : List ℕ). a ∷ xs) (range_cut (a + 1) m n k (omega (arith, e)) ∙ ap (λ b. range_with_len (a + 1) m ++ range_with_len b n) here)

-- items that tell an end tell it with those behind them
ends_further : (arena : Contents) (ids more : List ℕ) (ended : Ended) → EndsBehind arena None ids ended → EndsBehind arena None (ids ++ more) ended
ends_further arena ids more ended ends rest = ap (λ (xs : List ℕ). end_of_part arena None xs) (append_assoc ids more rest) ∙ ends (more ++ rest)

ends_later : (arena : Contents) (id seen later count : ℕ) → id ≤ seen → seen ≤ later → EndsBehind arena None (range_with_len id (seen - id)) (outside_at count) → EndsBehind arena None (range_with_len id (later - id)) (outside_at count)
ends_later arena id seen later count low high ends =
    let cut = range_cut id (seen - id) (later - seen) (later - id) (omega (arith, low, high)) in
    subst (λ (xs : List ℕ). EndsBehind arena None xs (outside_at count)) (sym cut) (ends_further arena (range_with_len id (seen - id)) (range_with_len (id + (seen - id)) (later - seen)) (outside_at count) ends)

pub row_order : (arena : Contents) (seen id last : ℕ) (ends : List ℕ) → FollowInRow arena seen id last ends → id ≤ last
row_order arena seen id last [] follow = omega (arith, follow)
row_order arena seen id last (end ∷ ends) follow = (let rest = row_order arena seen end last ends follow.2 in omega (arith, follow.0, rest))

follow_later : (arena : Contents) (seen later id last : ℕ) (ends : List ℕ) → last < seen → seen ≤ later → FollowInRow arena seen id last ends → FollowInRow arena later id last ends
follow_later arena seen later id last [] within more follow = follow
follow_later arena seen later id last (end ∷ ends) within more follow =
    let upto = row_order arena seen end last ends follow.2 in
    (follow.0, ends_later arena id seen later (end - id) (omega (arith, follow.0, upto, within)) more follow.1, follow_later arena seen later end last ends within more follow.2)

follow_both : (arena : Contents) (seen id middle last : ℕ) (ends later : List ℕ) → FollowInRow arena seen id middle ends → FollowInRow arena seen middle last later → FollowInRow arena seen id last (ends ++ later)
follow_both arena seen id middle last [] later follow behind = subst (λ k. FollowInRow arena seen k last later) (sym follow) behind
follow_both arena seen id middle last (end ∷ ends) later follow behind = (follow.0, follow.1, follow_both arena seen end middle last ends later follow.2 behind)

-- one row behind another
pub rows_joined : (arena : Contents) (id : ℕ) (row behind : KnownRow) (seen : ℕ) → row.seen ≤ seen → behind.seen ≤ seen → AreKnownRows arena id row → AreKnownRows arena row.end behind → AreKnownRows arena id (record { end = behind.end; seen = seen })
rows_joined arena id row behind seen first second are later = record {
  some = omega (arith, are.some, later.some);
  later = omega (arith, later.later, second);
  ends = are.ends ++ later.ends;
  follow = follow_both arena seen id row.end behind.end are.ends later.ends (follow_later arena row.seen seen id row.end are.ends are.later first are.follow)
      (follow_later arena behind.seen seen row.end behind.end later.ends later.later second later.follow);
}

pub some_is : {A : Type 0} (a b : A) → Some a ≡ Some b → a ≡ b
some_is a b e = cc

-- what is noted of one part, or of several
pub rows_of : (arena : Contents) (id : ℕ) (known : KnownEnd) (row : KnownRow) → row_of known ≡ Some row → IsKnown arena id known → AreKnownRows arena id row
rows_of arena id Unknown row e so = absurd (none e)
  where
    none : None ≡ Some row → ⊥
    none e = cc
rows_of arena id (InRow known) row e so =
    subst (λ (r : KnownRow). AreKnownRows arena id r) (some_is known row e) (record { some = so.some; later = so.later; ends = known.end ∷ []; follow = (so.some, so.ends, refl) })
rows_of arena id (InRows known) row e so = subst (λ (r : KnownRow). AreKnownRows arena id r) (some_is known row e) so
rows_of arena id (InSpan number) row e so = absurd (none e)
  where
    none : None ≡ Some row → ⊥
    none e = cc

-- ## A view that has the row

-- the end of a part at this place, outside brackets
abbrev pub stop_outside : ℕ → PartStop
stop_outside end = record { end = end; inside = None }

-- where the part of a view ends of which that is told
pub stop_at : (arena : Contents) (view : List ℕ) (begins : Option Place) (first : ℕ) (ended : Ended) → end_of_part arena begins (drop first view) ≡ Some ended → record { end = first + ended.count; inside = ended.inside } ≡ stop_from arena view begins first
stop_at arena view begins first ended is = ap (λ (end : Option Ended). record { end = first + count_or end (length (drop first view)); inside = inside_of end }) (sym is)

row_told : (arena : Contents) (view : List ℕ) (seen id end first : ℕ) → Increase view → id < seen → first + (seen - id) ≤ length view → ((k : ℕ) → k < seen - id → get_or view (first + k) 0 ≡ id + k)
    → EndsBehind arena None (range_with_len id (seen - id)) (outside_at (end - id)) → end_of_part arena None (drop first view) ≡ Some (outside_at (end - id))
row_told arena view seen id end first increase some inside items ends =
    let behind = seen - id - 1 in
    let n : suc behind ≡ seen - id = omega (arith, some) in
    let e : first + 0 ≡ first = omega arith in
    let at : get_or view first 0 ≡ id = ap (λ k. get_or view k 0) (sym e) ∙ (items 0 (omega (arith, some)) ∙ omega arith) in
    let same : take (suc behind) (drop first view) ≡ range_with_len id (suc behind) = row_from view first id behind increase (omega (arith, some, inside)) at (items behind (omega (arith, some))) in
    let told : EndsBehind arena None (range_with_len id (suc behind)) (outside_at (end - id)) = subst (λ k. EndsBehind arena None (range_with_len id k) (outside_at (end - id))) (sym n) ends in
    end_behind arena None (drop first view) (suc behind) (outside_at (end - id)) (subst (λ (xs : List ℕ). EndsBehind arena None xs (outside_at (end - id))) (sym same) told)

follow_view : (arena : Contents) (view : List ℕ) (seen id last : ℕ) (ends : List ℕ) (first : ℕ) → Increase view → last < seen → first + (seen - id) ≤ length view → ((k : ℕ) → k < seen - id → get_or view (first + k) 0 ≡ id + k)
    → FollowInRow arena seen id last ends → ArePartsUpTo arena view None first (stop_outside (first + (last - id)))
follow_view arena view seen id last [] first increase within inside items follow = record { stops = []; follow = ap (λ n. stop_outside n) (omega (arith, follow)) }
follow_view arena view seen id last (end ∷ ends) first increase within inside items follow =
    let upto = row_order arena seen end last ends follow.2 in
    let some = follow.0 in
    let here = first + (end - id) in
    let told = row_told arena view seen id end first increase (omega (arith, some, upto, within)) inside items follow.1 in
    let rest = follow_view arena view seen end last ends here increase within (omega (arith, inside, some, upto, within))
    (λ k below.
    let e : first + ((end - id) + k) ≡ here + k = omega arith in
    ap (λ j. get_or view j 0) (sym e) ∙ (items ((end - id) + k) (omega (arith, below, some)) ∙ omega (arith, some)))
    follow.2 in
    let e : here + (last - end) ≡ first + (last - id) = omega (arith, some, upto) in
    record {
      stops = stop_outside here ∷ rest.stops;
      follow = (omega (arith, inside, some, upto, within), omega (arith, some), stop_at arena view None first (outside_at (end - id)) told, subst (λ l. FollowUpTo arena view None here (stop_outside l) rest.stops) e rest.follow);
    }

-- where the view has the first and the last item of the row as far behind one another as they are, it has the parts
pub rows_in_view : (arena : Contents) (view : List ℕ) (first id behind : ℕ) (known : KnownRow) → Increase view → first + behind < length view → get_or view first 0 ≡ id → get_or view (first + behind) 0 ≡ known.seen - 1 → behind ≡ known.seen - 1 - id
    → AreKnownRows arena id known → ArePartsUpTo arena view None first (stop_outside (first + (known.end - id)))
rows_in_view arena view first id behind known increase below at last is are =
    let n : suc behind ≡ known.seen - id = omega (arith, is, are.some, are.later) in
    let far : get_or view (first + behind) 0 ≡ id + behind = omega (arith, last, is, are.some, are.later) in
    follow_view arena view known.seen id known.end are.ends first increase are.later (omega (arith, below, n)) (λ k short. row_item view first id behind increase below at far k (omega (arith, short, n))) are.follow

-- ## Rows that are joined

-- the two rows of which one was made
pub record AreJoined (first : KnownEnd) (next : ℕ) (later : KnownEnd) (made : KnownRow) : Type 0 where
  pub row : KnownRow
  pub behind : KnownRow
  pub row_is : row_of first ≡ Some row
  pub behind_is : row_of later ≡ Some behind
  pub follows : row.end ≡ next
  pub made_is : record { end = behind.end; seen = max row.seen behind.seen } ≡ made

pub of_joined : (first : KnownEnd) (next : ℕ) (later : KnownEnd) (made : KnownRow) → joined first next later ≡ Some made → AreJoined first next later made
of_joined first next later made e = by_first (row_of first) refl e
  where
    none : None ≡ Some made → ⊥
    none e = cc

    by_test : (row behind : KnownRow) (test : Bool) → row_of first ≡ Some row → row_of later ≡ Some behind → (row.end == next) ≡ test
        → (if test then Some (record { end = behind.end; seen = max row.seen behind.seen }) else None) ≡ Some made → AreJoined first next later made
    by_test row behind true a b is e = record { row = row; behind = behind; row_is = a; behind_is = b; follows = eqb-true row.end next is; made_is = some_is _ made e }
    by_test row behind false a b is e = absurd (none e)

    by_later : (row : KnownRow) (y : Option KnownRow) → row_of first ≡ Some row → row_of later ≡ y → (elim y [ None ↦ None | Some behind ↦ joined_rows row next behind ]) ≡ Some made → AreJoined first next later made
    by_later row None a b e = absurd (none e)
    by_later row (Some behind) a b e = by_test row behind (row.end == next) a b refl e

    by_first : (x : Option KnownRow) → row_of first ≡ x → (elim x [ None ↦ None | Some row ↦ elim (row_of later) [ None ↦ None | Some behind ↦ joined_rows row next behind ] ]) ≡ Some made → AreJoined first next later made
    by_first None a e = absurd (none e)
    by_first (Some row) a e = by_later row (row_of later) a refl e

pub in_or_past : (place n : ℕ) → (place < n) ⊎ (n ≤ place)
in_or_past place n = grind arith

-- what is noted for any item is so: behind the last one it is nothing
pub any_known : (arena : Contents) (knowns : List KnownEnd) (id : ℕ) → AreKnown arena knowns → IsKnown arena id (get_or knowns id Unknown)
any_known arena knowns id all =
    elim (in_or_past id (length knowns)) [
      | inl below ↦ all id below
      | inr past ↦ subst (λ (k : KnownEnd). IsKnown arena id k) (sym (get_or_past knowns id Unknown past)) tt
    ]

pub some_within : (knowns : List KnownEnd) (id : ℕ) (row : KnownRow) → row_of (get_or knowns id Unknown) ≡ Some row → id < length knowns
some_within knowns id row is =
    elim (in_or_past id (length knowns)) [
      | inl below ↦ below
      | inr past ↦ absurd (none (sym (ap (λ (k : KnownEnd). row_of k) (get_or_past knowns id Unknown past)) ∙ is))
    ]
  where
    none : None ≡ Some row → ⊥
    none e = cc

pub joined_known : (arena : Contents) (knowns : List KnownEnd) (first next : ℕ) (row : KnownRow) → joined (get_or knowns first Unknown) next (get_or knowns next Unknown) ≡ Some row → AreKnown arena knowns
    → AreKnown arena (slice_set knowns first (InRows row))
joined_known arena knowns first next made is all =
    let two = of_joined (get_or knowns first Unknown) next (get_or knowns next Unknown) made is in
    let are = rows_of arena first (get_or knowns first Unknown) two.row two.row_is (any_known arena knowns first all) in
    let later = rows_of arena next (get_or knowns next Unknown) two.behind two.behind_is (any_known arena knowns next all) in
    let behind : AreKnownRows arena two.row.end two.behind = subst (λ id. AreKnownRows arena id two.behind) (sym two.follows) later in
    let seen = max two.row.seen two.behind.seen in
    let one = rows_joined arena first two.row two.behind seen (omega arith) (omega arith) are behind in
    let so : AreKnownRows arena first made = subst (λ (r : KnownRow). AreKnownRows arena first r) two.made_is one in
    noted_all arena knowns first (InRows made) so all (some_within knowns first two.row two.row_is) (length-set knowns first (InRows made))

-- an item whose row is joined has something noted
has_noted : (knowns : List KnownEnd) (first next : ℕ) (row : KnownRow) → joined (get_or knowns first Unknown) next (get_or knowns next Unknown) ≡ Some row → get_or knowns first Unknown ≡ Unknown → ⊥
has_noted knowns first next made is unknown =
    let two = of_joined (get_or knowns first Unknown) next (get_or knowns next Unknown) made is in
    none two.row (sym (ap (λ (k : KnownEnd). row_of k) unknown) ∙ two.row_is)
  where
    none : (row : KnownRow) → None ≡ Some row → ⊥
    none row e = cc

-- so the joined row stands in its place
pub joined_stands : (knowns later : List KnownEnd) (first next : ℕ) (row : KnownRow) (replaced : Bool) → joined (get_or knowns first Unknown) next (get_or knowns next Unknown) ≡ Some row
    → OnTrue replaced (later ≡ slice_set knowns first (InRows row)) → OnFalse replaced (get_or knowns first Unknown ≡ Unknown) → later ≡ slice_set knowns first (InRows row)
joined_stands knowns later first next row true is put lacks = OnTrue_at refl put
joined_stands knowns later first next row false is put lacks = absurd (has_noted knowns first next row is (OnFalse_at refl lacks))
