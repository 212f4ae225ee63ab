-- Parts of a window of a view, as parts of the view.
use Rattle.std.proofs.Common.{◌≡◌, ◌∙◌, inl, inr, ℕ, suc, ◌+◌, ◌-◌, ◌<◌, ◌≤◌, Bool, true, false, Option, Some, None}
use Rattle.std.proofs.Common.{List, [], ◌∷◌, ◌++◌, length, length-append, get_or, take, drop, refl, sym, ap, subst}
use Rattle.std.proofs.Common.{arith}
use Rattle.std.specs.Prelude.{All, IsSome, is_some, not, slice_range}
use Rattle.std.specs.Option.{ForSome, ForNone}
use Rattle.std.proofs.lemmas.List.{append-nil, append_assoc, get_or-append-add, get_or_past, length-drop}
use Rattle.std.proofs.lemmas.List.{length-take-le, take-append-drop, take-append-le, drop-drop, drop_at, drop-append-le}
use Rattle.std.proofs.lemmas.List.Folds.{drop_split}
use Rattle.token_arena.specs.Gaps.{Contents}
use Rattle.token_arena.specs.Ids.{Increase}
use Rattle.branch_runs.specs.Anew.{items_between}
use Rattle.part_walk.specs.Places.{Place}
use Rattle.view_parts.specs.Parts.{Ended, PartStop, StandsBefore, ArePartsUpTo, count_or, end_of_part, inside_of}
use Rattle.view_parts.specs.Parts.{laid_items, part_inside, part_len, stop_from, items_before}
use Rattle.view_parts.specs.Told.{TellParts}
use Rattle.run_parts.specs.Runs.{seen_by}
use Rattle.run_parts.specs.Windows.{AreToldIn, IsWindow, place_before}
use Rattle.run_parts.proofs.Between.{between_increases, items_from, from_before, from_has, window_cut}
use Rattle.run_parts.proofs.FirstParts.{stop_at, tell_one}
use Rattle.run_parts.proofs.Parts.{before_or_behind, part_length}
use Rattle.run_parts.proofs.Seen.{seen_within}
use Rattle.run_parts.proofs.SeenInOrder.{seen_increases}
use Rattle.run_parts.proofs.Stretches.{window_fits, window_item}

-- ## A stretch of a list

-- what stands in the list from a place of the stretch on
pub drop_in : (ids before stretch behind : List ℕ) (place : ℕ) → ids ≡ before ++ (stretch ++ behind) → place ≤ length stretch → drop (length before + place) ids ≡ drop place stretch ++ behind
drop_in ids before stretch behind place is inside =
    ap (λ (xs : List ℕ). drop (length before + place) xs) is
    ∙ (sym (drop-drop place (length before) (before ++ (stretch ++ behind)))
    ∙ (ap (λ (xs : List ℕ). drop place xs) (drop_at before (stretch ++ behind) (length before) refl) ∙ drop-append-le place stretch behind inside))

pub slice_in : (ids before stretch behind : List ℕ) (first end : ℕ) → ids ≡ before ++ (stretch ++ behind) → first ≤ end → end ≤ length stretch
    → slice_range ids (length before + first) (length before + end) ≡ slice_range stretch first end
slice_in ids before stretch behind first end is order inside =
    let n : (length before + end) - (length before + first) ≡ end - first = omega (arith, order) in
    let long : end - first ≤ length (drop first stretch) = omega (arith, inside, length-drop first stretch) in
    ap (λ k. take k (drop (length before + first) ids)) n
    ∙ (ap (λ (xs : List ℕ). take (end - first) xs) (drop_in ids before stretch behind first is (omega (arith, order, inside))) ∙ take-append-le (end - first) (drop first stretch) behind long)

-- ## Parts that a stretch tells

-- where a part ends
pub stop_is : (arena : Contents) (view : List ℕ) (begins inside : Option Place) (first end : ℕ) → end ≡ first + part_len arena begins (drop first view) → inside ≡ part_inside arena begins (drop first view)
    → stop_at end inside ≡ stop_from arena view begins first
stop_is arena view begins inside first end at is =
    ap (λ n. stop_at n inside) at ∙ ap (λ (place : Option Place). stop_at (first + part_len arena begins (drop first view)) place) is

-- a part ends in the list where it ends in the stretch
pub told_part : (arena : Contents) (ids before stretch behind : List ℕ) (begins : Option Place) (first : ℕ) (stop : PartStop) (told : ℕ) → ids ≡ before ++ (stretch ++ behind) → first < stop.end → stop.end < told → told ≤ length stretch
    → TellParts arena begins (slice_range stretch first told) (stop.end - first) stop.inside → stop ≡ stop_from arena stretch begins first → stop_at (length before + stop.end) stop.inside ≡ stop_from arena ids begins (length before + first)
told_part arena ids before stretch behind begins first stop told is some later below tell ends =
    let items = slice_range stretch first told in
    let rest = drop told stretch in
    let cut : drop first stretch ≡ items ++ rest = drop_split stretch first told (omega (arith, some, later)) in
    let few : stop.end - first < length items = omega (arith, some, later, below, part_length stretch first told) in
    let one = tell_one arena begins items (stop.end - first) stop.inside tell (omega (arith, some)) few in
    let here : end_of_part arena begins (drop first stretch) ≡ Some one.0 = ap (λ (xs : List ℕ). end_of_part arena begins xs) cut ∙ one.1 rest in
    let whole : drop (length before + first) ids ≡ items ++ (rest ++ behind) =
    drop_in ids before stretch behind first is (omega (arith, some, later, below)) ∙ (ap (λ (xs : List ℕ). xs ++ behind) cut ∙ append_assoc items rest behind) in
    let there : end_of_part arena begins (drop (length before + first) ids) ≡ Some one.0 = ap (λ (xs : List ℕ). end_of_part arena begins xs) whole ∙ one.1 (rest ++ behind) in
    let len : part_len arena begins (drop first stretch) ≡ one.0.count = ap (λ (o : Option Ended). count_or o (length (drop first stretch))) here in
    let long : part_len arena begins (drop (length before + first) ids) ≡ one.0.count = ap (λ (o : Option Ended). count_or o (length (drop (length before + first) ids))) there in
    let at : stop.end ≡ first + part_len arena begins (drop first stretch) = ap (λ (s : PartStop). s.end) ends in
    let inside : stop.inside ≡ part_inside arena begins (drop (length before + first) ids) = ap (λ (s : PartStop). s.inside) ends ∙ (ap (λ (o : Option Ended). inside_of o) here ∙ sym (ap (λ (o : Option Ended). inside_of o) there)) in
    let end : length before + stop.end ≡ (length before + first) + part_len arena begins (drop (length before + first) ids) = omega (arith, len, long, at) in
    stop_is arena ids begins stop.inside (length before + first) (length before + stop.end) end inside

-- and so do parts that follow one another
pub told_parts : (arena : Contents) (ids before stretch behind : List ℕ) (begins inside : Option Place) (first end told : ℕ) → ids ≡ before ++ (stretch ++ behind) → first < end → end < told → told ≤ length stretch
    → TellParts arena begins (slice_range stretch first told) (end - first) inside → ArePartsUpTo arena ids begins (length before + first) (stop_at (length before + end) inside)
told_parts arena ids before stretch behind begins inside first end told is some later below tell =
    let items = slice_range stretch first told in
    let rest = drop told stretch in
    let begun = take first stretch in
    let front = before ++ begun in
    let cut : drop first stretch ≡ items ++ rest = drop_split stretch first told (omega (arith, some, later)) in
    let tail : stretch ++ behind ≡ begun ++ (items ++ (rest ++ behind)) =
    ap (λ (xs : List ℕ). xs ++ behind) (sym (take-append-drop first stretch))
    ∙ (append_assoc begun (drop first stretch) behind ∙ ap (λ (xs : List ℕ). begun ++ xs) (ap (λ (xs : List ℕ). xs ++ behind) cut ∙ append_assoc items rest behind)) in
    let whole : ids ≡ front ++ (items ++ (rest ++ behind)) = is ∙ (ap (λ (xs : List ℕ). before ++ xs) tail ∙ sym (append_assoc before begun (items ++ (rest ++ behind)))) in
    let at : length front ≡ length before + first = length-append before begun ∙ ap (λ k. length before + k) (length-take-le first stretch (omega (arith, some, later, below))) in
    let last : length front + (end - first) ≡ length before + end = omega (arith, at, some) in
    subst (λ k. ArePartsUpTo arena ids begins (length before + first) (stop_at k inside)) last
    (subst (λ k. ArePartsUpTo arena ids begins k (stop_at (length front + (end - first)) inside)) at
    (subst (λ (xs : List ℕ). ArePartsUpTo arena xs begins (length front) (stop_at (length front + (end - first)) inside)) (sym whole) (tell front (rest ++ behind))))

-- ## A window of what a run sees

-- no item stands behind a window that reaches the end of the text
none_from : (items end : ℕ) (ids : List ℕ) → All (λ id. id < items) ids → items ≤ end → items_from end ids ≡ []
none_from items end [] all past = refl
none_from items end (id ∷ ids) all past =
    let here : id < items = all 0 0 (omega arith) in
    from_before end id ids (omega (arith, here, past)) ∙ none_from items end ids (λ k d below. all (suc k) d (omega (arith, below))) past

-- what a run sees, cut where a window begins and ends
pub window_stands : (arena : Contents) (run first end : ℕ) (window : List ℕ) → IsWindow arena run window first end
    → seen_by arena run ≡ items_between 0 first (seen_by arena run) ++ (window ++ items_from end (seen_by arena run))
window_stands arena run first end window is =
    let seen = seen_by arena run in
    window_cut first end seen (seen_increases arena run) is.order ∙ ap (λ (xs : List ℕ). items_between 0 first seen ++ (xs ++ items_from end seen)) (sym is.items)

-- its items increase
pub window_increases : (arena : Contents) (run first end : ℕ) (window : List ℕ) → IsWindow arena run window first end → Increase window
window_increases arena run first end window is = subst (λ (xs : List ℕ). Increase xs) (sym is.items) (between_increases 0 first end (seen_by arena run) (seen_increases arena run))

-- it isn't longer than what the run sees
pub window_inside : (arena : Contents) (run first end : ℕ) (window : List ℕ) → IsWindow arena run window first end → place_before arena run first + length window ≤ length (seen_by arena run)
window_inside arena run first end window is =
    let seen = seen_by arena run in
    subst (λ (xs : List ℕ). place_before arena run first + length xs ≤ length seen) (sym is.items) (window_fits first end seen (seen_increases arena run) is.order)

pub window_slice : (arena : Contents) (run from till : ℕ) (window : List ℕ) (first end : ℕ) → IsWindow arena run window from till → first ≤ end → end ≤ length window
    → slice_range (seen_by arena run) (place_before arena run from + first) (place_before arena run from + end) ≡ slice_range window first end
window_slice arena run from till window first end is order inside =
    let seen = seen_by arena run in
    slice_in seen (items_between 0 from seen) window (items_from till seen) first end (window_stands arena run from till window is) order inside

pub window_laid : (arena : Contents) (run from till : ℕ) (window : List ℕ) (begins : Option Place) (first end : ℕ) → IsWindow arena run window from till → first ≤ end → end ≤ length window
    → laid_items begins (seen_by arena run) (place_before arena run from + first) (place_before arena run from + end) ≡ laid_items begins window first end
window_laid arena run from till window begins first end is order inside = ap (λ (xs : List ℕ). items_before begins ++ xs) (window_slice arena run from till window first end is order inside)

-- parts that the window tells are parts of what the run sees
pub window_parts : (arena : Contents) (run from till : ℕ) (window : List ℕ) (begins inside : Option Place) (first end told : ℕ) → IsWindow arena run window from till → first < end → AreToldIn arena window begins first end inside told
    → ArePartsUpTo arena (seen_by arena run) begins (place_before arena run from + first) (stop_at (place_before arena run from + end) inside)
window_parts arena run from till window begins inside first end told is some are =
    let seen = seen_by arena run in
    told_parts arena seen (items_between 0 from seen) window (items_from till seen) begins inside first end told (window_stands arena run from till window is) some are.later are.below are.tell

-- an item of the window stands in what the run sees
pub seen_item : (arena : Contents) (run from till : ℕ) (window : List ℕ) (place : ℕ) → IsWindow arena run window from till → place < length window → get_or (seen_by arena run) (place_before arena run from + place) 0 ≡ get_or window place 0
seen_item arena run from till window place is below =
    let seen = seen_by arena run in
    subst (λ (xs : List ℕ). place < length xs → get_or seen (place_before arena run from + place) 0 ≡ get_or xs place 0) (sym is.items) (window_item from till seen place (seen_increases arena run) is.order) below

-- what stands for a place before an item of the window stands before it in what the run sees
pub stands_in_seen : (arena : Contents) (run from till : ℕ) (window : List ℕ) (begins : Option Place) (place : ℕ) → IsWindow arena run window from till → ForSome begins (λ b. StandsBefore b (get_or window place 0))
    → ForSome begins (λ b. StandsBefore b (get_or (seen_by arena run) (place_before arena run from + place) 0))
stands_in_seen arena run from till window begins place window_is stands = λ b is.
    let here = stands b is in
    let low = here.before in
    elim (before_or_behind place (length window)) [
      | inl below ↦ subst (λ id. StandsBefore b id) (sym (seen_item arena run from till window place window_is below)) here
      | inr past ↦ (let none : get_or window place 0 ≡ 0 = get_or_past window place 0 past in absurd (omega (arith, low, none)))
    ]

-- those behind it are none of the items before its end
pub behind_window : (arena : Contents) (run from till : ℕ) (window : List ℕ) (place : ℕ) → IsWindow arena run window from till → place_before arena run from + length window ≤ place → place < length (seen_by arena run)
    → till ≤ get_or (seen_by arena run) place 0
behind_window arena run from till window place is past below =
    let seen = seen_by arena run in
    let front = items_between 0 from seen in
    let rest = items_from till seen in
    let stands = window_stands arena run from till window is in
    let k = place - length front - length window in
    let at : place ≡ length front + (length window + k) = omega (arith, past) in
    let all : length seen ≡ length (front ++ (window ++ rest)) = ap (λ (xs : List ℕ). length xs) stands in
    let item : get_or seen place 0 ≡ get_or rest k 0 =
    ap (λ (xs : List ℕ). get_or xs place 0) stands
    ∙ (ap (λ j. get_or (front ++ (window ++ rest)) j 0) at ∙ (get_or-append-add front (window ++ rest) (length window + k) 0 ∙ get_or-append-add window rest k 0)) in
    let has = from_has till seen k (omega (arith, below, past, all, length-append front (window ++ rest), length-append window rest)) in
    omega (arith, item, has)

pub unlike : false ≡ true → ⊥
unlike e = cc

-- the same, where it is known that the window tells them
pub window_row : (arena : Contents) (run from till : ℕ) (window : List ℕ) (begins inside : Option Place) (first end : ℕ) (told : Option ℕ) → IsWindow arena run window from till → first < end → IsSome told
    → ForSome told (λ told. AreToldIn arena window begins first end inside told) → ArePartsUpTo arena (seen_by arena run) begins (place_before arena run from + first) (stop_at (place_before arena run from + end) inside)
window_row arena run from till window begins inside first end (Some told) is some tells are = window_parts arena run from till window begins inside first end told is some (are told refl)
window_row arena run from till window begins inside first end None is some tells are = absurd (unlike tells)

-- what is told isn't untold
pub isnt_told : (told : Option ℕ) (none : Bool) → is_some told ≡ not none → none ≡ false → told ≡ None → ⊥
isnt_told told none is told_is e = unlike (sym (ap (λ (o : Option ℕ). is_some o) e) ∙ (is ∙ ap (λ (b : Bool). not b) told_is))

-- a part of the window ends in what the run sees where it ends in the window, which tells so or reaches the end of the text
pub window_part : (arena : Contents) (run from till : ℕ) (window : List ℕ) (begins : Option Place) (first : ℕ) (stop : PartStop) (told : Option ℕ) → IsWindow arena run window from till → first < stop.end → stop.end ≤ length window
    → ForSome told (λ told. AreToldIn arena window begins first stop.end stop.inside told) → ForNone told (length arena.tokens ≤ till) → stop ≡ stop_from arena window begins first
    → stop_at (place_before arena run from + stop.end) stop.inside ≡ stop_from arena (seen_by arena run) begins (place_before arena run from + first)
window_part arena run from till window begins first stop (Some told) is some inside are whole ends =
    let seen = seen_by arena run in
    let here = are told refl in
    told_part arena seen (items_between 0 from seen) window (items_from till seen) begins first stop told (window_stands arena run from till window is) some here.later here.below here.tell ends
window_part arena run from till window begins first stop None is some inside are whole ends =
    let seen = seen_by arena run in
    let place = place_before arena run from in
    let none = none_from (length arena.tokens) till seen (seen_within arena run) (whole refl) in
    let same : drop (place + first) seen ≡ drop first window =
    drop_in seen (items_between 0 from seen) window (items_from till seen) first (window_stands arena run from till window is) (omega (arith, some, inside))
    ∙ (ap (λ (xs : List ℕ). drop first window ++ xs) none ∙ append-nil (drop first window)) in
    let len = ap (λ (xs : List ℕ). part_len arena begins xs) same in
    let at : stop.end ≡ first + part_len arena begins (drop first window) = ap (λ (s : PartStop). s.end) ends in
    let begun : stop.inside ≡ part_inside arena begins (drop (place + first) seen) = ap (λ (s : PartStop). s.inside) ends ∙ sym (ap (λ (xs : List ℕ). part_inside arena begins xs) same) in
    let end : place + stop.end ≡ (place + first) + part_len arena begins (drop (place + first) seen) = omega (arith, at, len) in
    stop_is arena seen begins stop.inside (place + first) (place + stop.end) end begun
