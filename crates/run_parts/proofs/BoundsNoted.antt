-- Where parts end that a window tells, a later run may start.
use Rattle.std.proofs.Common.{◌≡◌, ◌∙◌, ℕ, ◌+◌, ◌-◌, ◌<◌, ◌≤◌, Option, List, ◌++◌, length, length-append, append_assoc}
use Rattle.std.proofs.Common.{get_or, take, drop, sym, ap, subst, arith}
use Rattle.std.specs.Prelude.{slice_range}
use Rattle.std.proofs.lemmas.List.{length-take, take-append-drop}
use Rattle.std.proofs.lemmas.List.Folds.{drop_split}
use Rattle.token_arena.specs.Gaps.{Contents}
use Rattle.token_arena.specs.Ids.{Increase}
use Rattle.branch_runs.specs.Anew.{items_between}
use Rattle.part_walk.specs.Places.{Place}
use Rattle.run_parts.specs.Bounds.{BeginTold, IsBound}
use Rattle.run_parts.specs.Runs.{seen_by}
use Rattle.run_parts.specs.Windows.{AreToldIn, IsWindow, place_before}
use Rattle.run_parts.proofs.Between.{items_from, in_order}
use Rattle.run_parts.proofs.FirstParts.{told_further, place_of}
use Rattle.run_parts.proofs.Parts.{part_item, part_length}
use Rattle.run_parts.proofs.SeenInOrder.{seen_increases}
use Rattle.run_parts.proofs.WindowParts.{window_stands, window_inside, seen_item}

-- a list up to one place, from there to another, and from that one on
cut_twice : (ids : List ℕ) (from to : ℕ) → from ≤ to → ids ≡ take from ids ++ (slice_range ids from to ++ drop to ids)
cut_twice ids from to order = sym (take-append-drop from ids) ∙ ap (λ (xs : List ℕ). take from ids ++ xs) (drop_split ids from to order)

-- where parts end behind those that earlier items tell
pub window_told : (arena : Contents) (run : ℕ) (view : List ℕ) (first end : ℕ) (begins inside : Option Place) (from to told was now : ℕ) → IsWindow arena run view first end → AreToldIn arena view begins from to inside told → from < to → was ≤ now → get_or view (told - 1) 0 < now
    → BeginTold arena (items_between 0 was (seen_by arena run)) (place_before arena run first + from) begins → BeginTold arena (items_between 0 now (seen_by arena run)) (place_before arena run first + to) inside
window_told arena run view first end begins inside from to told was now window tells some later last begin =
    let ids = seen_by arena run in
    let front = items_between 0 first ids in
    let tail = items_from end ids in
    let here = take from view in
    let seen = slice_range view from told in
    let rest = drop told view in
    let before = front ++ here in
    let behind = rest ++ tail in
    let cut : view ≡ here ++ (seen ++ rest) = cut_twice view from told (omega (arith, some, tells.later)) in
    let inner : view ++ tail ≡ here ++ (seen ++ behind) =
    ap (λ (xs : List ℕ). xs ++ tail) cut ∙ (append_assoc here (seen ++ rest) tail ∙ ap (λ (xs : List ℕ). here ++ xs) (append_assoc seen rest tail)) in
    let is : ids ≡ before ++ (seen ++ behind) = window_stands arena run first end view window ∙ (ap (λ (xs : List ℕ). front ++ xs) inner ∙ sym (append_assoc front here (seen ++ behind))) in
    let many : length seen ≡ told - from = omega (arith, part_length view from told, tells.below) in
    let at : length before ≡ place_before arena run first + from = omega (arith, length-append front here, length-take from view, some, tells.later, tells.below) in
    let place : from + (length seen - 1) ≡ told - 1 = omega (arith, many, some, tells.later) in
    let item : get_or seen (length seen - 1) 0 ≡ get_or view (told - 1) 0 = part_item view from told (length seen - 1) 0 (omega (arith, many, some, tells.later)) ∙ ap (λ k. get_or view k 0) place in
    let begun : BeginTold arena (items_between 0 was (before ++ (seen ++ behind))) (length before) begins =
    subst (λ (xs : List ℕ). BeginTold arena (items_between 0 was xs) (length before) begins) is (subst (λ k. BeginTold arena (items_between 0 was ids) k begins) (sym at) begin) in
    let ended = told_further arena before seen behind begins inside was now (to - from) (subst (λ (xs : List ℕ). Increase xs) is (seen_increases arena run)) (omega (arith, many, some, tells.later)) later (omega (arith, item, last)) begun tells.tell in
    let upto : length before + (to - from) ≡ place_before arena run first + to = omega (arith, at, some) in
    subst (λ k. BeginTold arena (items_between 0 now ids) k inside) upto (subst (λ (xs : List ℕ). BeginTold arena (items_between 0 now xs) (length before + (to - from)) inside) (sym is) ended)

-- the item before which they end is a bound
pub window_bound : (arena : Contents) (run : ℕ) (view : List ℕ) (first end to : ℕ) (inside : Option Place) (last now : ℕ) → IsWindow arena run view first end → to ≤ last → last < length view → get_or view last 0 < now
    → BeginTold arena (items_between 0 now (seen_by arena run)) (place_before arena run first + to) inside → IsBound arena (seen_by arena run) (get_or view to 0) now inside
window_bound arena run view first end to inside last now window order below past told =
    let ids = seen_by arena run in
    let front = place_before arena run first in
    let increase = seen_increases arena run in
    let here_is : to < length view = omega (arith, order, below) in
    let fits = window_inside arena run first end view window in
    let here : get_or ids (front + to) 0 ≡ get_or view to 0 = seen_item arena run first end view to window here_is in
    let there : get_or ids (front + last) 0 ≡ get_or view last 0 = seen_item arena run first end view last window below in
    let up = in_order 0 ids (front + to) (front + last) increase (omega (arith, order)) (omega (arith, fits, below)) in
    let before : length (items_between 0 (get_or view to 0) ids) ≡ front + to =
    ap (λ id. length (items_between 0 id ids)) (sym here) ∙ place_of 0 ids (front + to) increase (omega (arith, fits, here_is)) in
    record { order = omega (arith, here, there, up, past); begin = subst (λ k. BeginTold arena (items_between 0 now ids) k inside) (sym before) told }
