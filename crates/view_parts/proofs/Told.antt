-- Which items of a view tell where its parts end.
use Rattle.std.proofs.Common.{◌≡◌, ◌∙◌, ℕ, suc, ◌+◌, ◌-◌, ◌<◌, ◌≤◌, Option, Some, None, List, [], ◌∷◌, ◌++◌, length, take, drop, get_or, append_assoc, refl, sym, ap, subst, arith}
use Rattle.std.specs.Prelude.{slice_range}
use Rattle.std.specs.List.{range_with_len}
use Rattle.std.specs.Option.{ForSome}
use Rattle.std.proofs.Math.Seq.{drop-append_seam}
use Rattle.std.proofs.lemmas.List.{drop-drop, length-append, length-drop, length-take-le}
use Rattle.std.proofs.lemmas.List.FromFn.{length-range_with_len}
use Rattle.token_arena.specs.Gaps.{Contents}
use Rattle.token_arena.specs.Ids.{Increase}
use Rattle.view_parts.specs.declared.known.KnownRow.{KnownRow}
use Rattle.part_walk.specs.Places.{Place}
use Rattle.view_parts.specs.Parts.{Ended, end_of_part, EndsBehind, FollowUpTo, ArePartsUpTo}
use Rattle.view_parts.specs.declared.known.KnownSpan.{KnownSpan}
use Rattle.view_parts.specs.Known.{AreKnownRows, FollowInRow, IsKnownRow, IsSpan}
use Rattle.view_parts.specs.Told.{TellParts}
use Rattle.view_parts.proofs.Walked.{outside_at}
use Rattle.view_parts.proofs.Rows.{row_from}
use Rattle.view_parts.proofs.RowParts.{range_cut, row_order, some_is, stop_at, stop_outside}

-- the items of a view from one place on tell where parts end, where it is told up to which place they stand
abbrev pub TellsUpTo : Contents → List ℕ → ℕ → ℕ → Option ℕ → Type 0
TellsUpTo arena view first end told = ForSome told (λ seen. TellParts arena None (slice_range view first seen) (end - first) None)

tells_to : (arena : Contents) (view : List ℕ) (first end seen : ℕ) → TellParts arena None (slice_range view first seen) (end - first) None → TellsUpTo arena view first end (Some seen)
tells_to arena view first end seen tells = λ told is. subst (λ n. TellParts arena None (slice_range view first n) (end - first) None) (some_is seen told is) tells

-- where the first part ends of items that begin with those that tell it
end_told : (arena : Contents) (begins : Option Place) (ids told rest : List ℕ) (ended : Ended) → ids ≡ told ++ rest → EndsBehind arena begins told ended → end_of_part arena begins ids ≡ Some ended
end_told arena begins ids told rest ended is ends = ap (λ (xs : List ℕ). end_of_part arena begins xs) is ∙ ends rest

-- ## One part

pub one_told : (arena : Contents) (begins : Option Place) (told : List ℕ) (ended : Ended) → 0 < ended.count → ended.count < length told → EndsBehind arena begins told ended → TellParts arena begins told ended.count ended.inside
one_told arena begins told ended some later ends before rest =
    let view = before ++ (told ++ rest) in
    let first = length before in
    let whole : length view ≡ first + (length told + length rest) = length-append before (told ++ rest) ∙ ap (λ n. first + n) (length-append told rest) in
    let end : end_of_part arena begins (drop first view) ≡ Some ended = end_told arena begins (drop first view) told rest ended (drop-append_seam before (told ++ rest)) ends in
    record {
      stops = record { end = first + ended.count; inside = ended.inside } ∷ [];
      follow = (omega (arith, whole, later), omega (arith, some), stop_at arena view begins first ended end, refl);
    }

-- the items of a view from a place on, up to the one that tells it
pub part_told : (arena : Contents) (begins inside : Option Place) (view : List ℕ) (first end seen : ℕ) → first < end → end < seen → seen ≤ length view
    → EndsBehind arena begins (slice_range view first seen) (record { count = end - first; inside = inside }) → TellParts arena begins (slice_range view first seen) (end - first) inside
part_told arena begins inside view first end seen some later within ends =
    let many : length (slice_range view first seen) ≡ seen - first = length-take-le (seen - first) (drop first view) (omega (arith, length-drop first view, within, some, later)) in
    one_told arena begins (slice_range view first seen) (record { count = end - first; inside = inside }) (omega (arith, some)) (omega (arith, some, later, many)) ends

pub span_told : (arena : Contents) (view : List ℕ) (first : ℕ) (span : KnownSpan) → slice_range view first (first + length span.told) ≡ span.told → IsSpan arena span
    → TellsUpTo arena view first (first + span.count) (Some (first + length span.told))
span_told arena view first span same so =
    let e : span.count ≡ first + span.count - first = omega arith in
    tells_to arena view first (first + span.count) (first + length span.told)
    (subst (λ n. TellParts arena None (slice_range view first (first + length span.told)) n None) e
    (subst (λ (xs : List ℕ). TellParts arena None xs span.count None) (sym same) (one_told arena None span.told (outside_at span.count) so.some so.later so.ends)))

-- ## Parts in a row

-- behind a part of a row, where the row goes on up to what tells its end
behind_part : (view rest : List ℕ) (first id end seen : ℕ) → id < end → end < seen → drop first view ≡ range_with_len id (seen - id) ++ rest → drop (first + (end - id)) view ≡ range_with_len end (seen - end) ++ rest
behind_part view rest first id end seen some later is =
    let here = range_with_len id (end - id) in
    let behind = range_with_len (id + (end - id)) (seen - end) in
    let at : id + (end - id) ≡ end = omega (arith, some) in
    let cut : range_with_len id (seen - id) ≡ here ++ behind = range_cut id (end - id) (seen - end) (seen - id) (omega (arith, some, later)) in
    let all : drop first view ≡ here ++ (behind ++ rest) = is ∙ (ap (λ (xs : List ℕ). xs ++ rest) cut ∙ append_assoc here behind rest) in
    let past : drop (end - id) (here ++ (behind ++ rest)) ≡ behind ++ rest =
    ap (λ n. drop n (here ++ (behind ++ rest))) (sym (length-range_with_len id (end - id))) ∙ drop-append_seam here (behind ++ rest) in
    sym (drop-drop (end - id) first view) ∙ (ap (λ (xs : List ℕ). drop (end - id) xs) all ∙ (past ∙ ap (λ n. range_with_len n (seen - end) ++ rest) at))

follow_told : (arena : Contents) (view rest : List ℕ) (seen id last : ℕ) (ends : List ℕ) (first : ℕ) → last < seen → drop first view ≡ range_with_len id (seen - id) ++ rest → FollowInRow arena seen id last ends → ArePartsUpTo arena view None first (stop_outside (first + (last - id)))
follow_told arena view rest seen id last [] first within is follow = record { stops = []; follow = ap (λ n. stop_outside n) (omega (arith, follow)) }
follow_told arena view rest seen id last (end ∷ ends) first within is follow =
    let some = follow.0 in
    let upto = row_order arena seen end last ends follow.2 in
    let here = first + (end - id) in
    let told = range_with_len id (seen - id) in
    let at : end_of_part arena None (drop first view) ≡ Some (outside_at (end - id)) = end_told arena None (drop first view) told rest (outside_at (end - id)) is follow.1 in
    let many : length view - first ≡ (seen - id) + length rest =
    sym (length-drop first view) ∙ (ap (λ (xs : List ℕ). length xs) is ∙ (length-append told rest ∙ ap (λ n. n + length rest) (length-range_with_len id (seen - id)))) in
    let later = follow_told arena view rest seen end last ends here within (behind_part view rest first id end seen some (omega (arith, upto, within)) is) follow.2 in
    let e : here + (last - end) ≡ first + (last - id) = omega (arith, some, upto) in
    record {
      stops = stop_outside here ∷ later.stops;
      follow = (omega (arith, many, some, upto, within), omega (arith, some), stop_at arena view None first (outside_at (end - id)) at, subst (λ l. FollowUpTo arena view None here (stop_outside l) later.stops) e later.follow);
    }

rows_tell : (arena : Contents) (id : ℕ) (known : KnownRow) → AreKnownRows arena id known → TellParts arena None (range_with_len id (known.seen - id)) (known.end - id) None
rows_tell arena id known are before rest =
    follow_told arena (before ++ (range_with_len id (known.seen - id) ++ rest)) rest known.seen id known.end are.ends (length before) are.later (drop-append_seam before (range_with_len id (known.seen - id) ++ rest)) are.follow

-- where the view has the first and the last item of the row as far behind one another as they are, its items tell it
pub rows_told : (arena : Contents) (view : List ℕ) (first id behind : ℕ) (known : KnownRow) → Increase view → first + behind < length view → get_or view first 0 ≡ id → get_or view (first + behind) 0 ≡ known.seen - 1 → behind ≡ known.seen - 1 - id
    → AreKnownRows arena id known → TellsUpTo arena view first (first + (known.end - id)) (Some (first + behind + 1))
rows_told arena view first id behind known increase below at last is are =
    let n : suc behind ≡ known.seen - id = omega (arith, is, are.some, are.later) in
    let m : suc behind ≡ first + behind + 1 - first = omega arith in
    let c : known.end - id ≡ first + (known.end - id) - first = omega arith in
    let far : get_or view (first + behind) 0 ≡ id + behind = omega (arith, last, is, are.some, are.later) in
    let same : range_with_len id (known.seen - id) ≡ slice_range view first (first + behind + 1) =
    ap (λ k. range_with_len id k) (sym n) ∙ (sym (row_from view first id behind increase below at far) ∙ ap (λ k. take k (drop first view)) m) in
    tells_to arena view first (first + (known.end - id)) (first + behind + 1)
    (subst (λ k. TellParts arena None (slice_range view first (first + behind + 1)) k None) c (subst (λ (xs : List ℕ). TellParts arena None xs (known.end - id) None) same (rows_tell arena id known are)))

-- one part alone
pub row_told : (arena : Contents) (view : List ℕ) (first id behind : ℕ) (known : KnownRow) → Increase view → first + behind < length view → get_or view first 0 ≡ id → get_or view (first + behind) 0 ≡ known.seen - 1 → behind ≡ known.seen - 1 - id
    → IsKnownRow arena id known → TellsUpTo arena view first (first + (known.end - id)) (Some (first + behind + 1))
row_told arena view first id behind known increase below at last is so =
    rows_told arena view first id behind known increase below at last is (record { some = so.some; later = so.later; ends = known.end ∷ []; follow = (so.some, so.ends, refl) })
