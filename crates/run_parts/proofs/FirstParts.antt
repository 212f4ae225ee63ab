-- Where parts of a view end, as its first items tell.
use Rattle.std.proofs.Common.{◌≡◌, ◌∙◌, ◌⊎◌, inl, inr, ℕ, zero, suc, ◌+◌, ◌-◌, ◌<◌, ◌≤◌, Option, Some, None, List, []}
use Rattle.std.proofs.Common.{◌∷◌, ◌++◌, length, length-append, append_assoc, get_or, take, drop, refl, sym, ap, subst}
use Rattle.std.proofs.Common.{arith}
use Rattle.std.proofs.Math.Seq.{take-append_seam}
use Rattle.std.proofs.lemmas.List.{append-nil, length-drop, length-take, get_or-append-add, get_or_append_left}
use Rattle.std.proofs.lemmas.List.{get_or-take}
use Rattle.token_arena.specs.Gaps.{Contents}
use Rattle.item_classes.specs.Viewed.{item_class}
use Rattle.token_arena.specs.Ids.{Increase, IncreaseFrom}
use Rattle.token_classes.specs.declared.pairing.Opener.{Opener}
use Rattle.branch_runs.specs.Anew.{items_between}
use Rattle.part_walk.specs.Places.{Place, place_in}
use Rattle.view_parts.specs.Parts.{Ended, PartStop, count_or, end_of_part, next_end, part_len, stop_from, FollowUpTo}
use Rattle.view_parts.specs.Parts.{ArePartsUpTo}
use Rattle.part_walk.specs.Brackets.{around_of, bodies_at, bodies_behind, place_behind, waiting_at, waiting_behind}
use Rattle.part_walk.specs.Brackets.{walk_behind}
use Rattle.part_walk.specs.declared.bodies.Head.{Head}
use Rattle.part_walk.specs.declared.walk.Walk.{Walk}
use Rattle.part_walk.specs.Walk.{opened_head, reading, start}
use Rattle.part_walk.specs.Reading.{Reading, EndsOutside, EndsInBody, Never, GoesOn}
use Rattle.view_parts.specs.Told.{TellParts}
use Rattle.view_parts.proofs.InOrder.{HasHeads, inside_headed, len_fits}
use Rattle.run_parts.specs.declared.bounds.KnownBound.{KnownBound}
use Rattle.run_parts.specs.Bounds.{BeginTold, IsBound, AreBounds, no_bound}
use Rattle.run_parts.proofs.Between.{items_from, view_cut, front_cut, front_agrees, first_between, in_order, between_in}
use Rattle.run_parts.proofs.Between.{none_between, none_first}

-- parts end behind where they begin
pub follow_order : (arena : Contents) (ids : List ℕ) (begins : Option Place) (first : ℕ) (last : PartStop) (stops : List PartStop) → FollowUpTo arena ids begins first last stops → first ≤ last.end
follow_order arena ids begins first last [] follow = (let at : first ≡ last.end = ap (λ (s : PartStop). s.end) follow in omega (arith, at))
follow_order arena ids begins first last (stop ∷ stops) follow = (let rest = follow_order arena ids stop.inside stop.end last stops follow.3 in omega (arith, follow.1, rest))

-- where a part of a view ends so
abbrev pub stop_at : ℕ → Option Place → PartStop
stop_at end inside = record { end = end; inside = inside }

pub nothing_told : (arena : Contents) → BeginTold arena [] 0 None
nothing_told arena rest = record { stops = []; follow = refl }

-- before the first item no part ends
pub starts_bound : (arena : Contents) (view : List ℕ) → IsBound arena view 0 0 None
starts_bound arena view = record {
  order = omega arith;
  begin = subst (λ (xs : List ℕ). BeginTold arena xs (length xs) None) (sym (none_first view)) (nothing_told arena);
}

-- it is so in a view that has the same items before those
pub bound_stays : (arena : Contents) (view next : List ℕ) (item told : ℕ) (inside : Option Place) (first : ℕ) → told ≤ first → items_between 0 first next ≡ items_between 0 first view → IsBound arena view item told inside
    → IsBound arena next item told inside
bound_stays arena view next item told inside first low same bound =
    let is : items_between 0 told view ≡ items_between 0 told next = sym (front_agrees told first next view low same) in
    let at : items_between 0 item view ≡ items_between 0 item next = front_agrees item told view next bound.order is in
    record {
      order = bound.order;
      begin = subst (λ (xs : List ℕ). BeginTold arena xs (length (items_between 0 item next)) inside) is (subst (λ (xs : List ℕ). BeginTold arena (items_between 0 told view) (length xs) inside) at bound.begin);
    }

-- what the first items tell is so in the view
pub parts_of_told : (arena : Contents) (view : List ℕ) (told last : ℕ) (inside : Option Place) → Increase view → BeginTold arena (items_between 0 told view) last inside → ArePartsUpTo arena view None 0 (stop_at last inside)
parts_of_told arena view told last inside increase begin = subst (λ (xs : List ℕ). ArePartsUpTo arena xs None 0 (stop_at last inside)) (sym (view_cut told view increase)) (begin (items_from told view))

-- ## Parts behind parts

follow_both : (arena : Contents) (view : List ℕ) (begins : Option Place) (first : ℕ) (middle last : PartStop) (stops later : List PartStop) → FollowUpTo arena view begins first middle stops
    → FollowUpTo arena view middle.inside middle.end last later → FollowUpTo arena view begins first last (stops ++ later)
follow_both arena view begins first middle last [] later follow behind = subst (λ (s : PartStop). FollowUpTo arena view s.inside s.end last later) (sym follow) behind
follow_both arena view begins first middle last (stop ∷ stops) later follow behind = (follow.0, follow.1, follow.2, follow_both arena view stop.inside stop.end middle last stops later follow.3 behind)

pub parts_joined : (arena : Contents) (view : List ℕ) (begins : Option Place) (first : ℕ) (middle last : PartStop) → ArePartsUpTo arena view begins first middle → ArePartsUpTo arena view middle.inside middle.end last
    → ArePartsUpTo arena view begins first last
parts_joined arena view begins first middle last parts later =
    record { stops = parts.stops ++ later.stops; follow = follow_both arena view begins first middle last parts.stops later.stops parts.follow later.follow }

-- from any place parts go on up to the end of the view
pub parts_to_end : (arena : Contents) (view : List ℕ) (begins : Option Place) (first : ℕ) → HasHeads begins → first ≤ length view → (inside : Option Place) × ArePartsUpTo arena view begins first (stop_at (length view) inside)
parts_to_end arena view begins first has inside = by_left (length view - first) begins first has inside (omega arith)
  where
    here_or_end : (first : ℕ) → first ≤ length view → (first < length view) ⊎ (first ≡ length view)
    here_or_end first inside = grind (arith, inside)

    at_end : (begins : Option Place) (first : ℕ) → first ≡ length view → (inside : Option Place) × ArePartsUpTo arena view begins first (stop_at (length view) inside)
    at_end begins first at = (begins, record { stops = []; follow = ap (λ n. stop_at n begins) at })

    by_left : (left : ℕ) (begins : Option Place) (first : ℕ) → HasHeads begins → first ≤ length view → length view - first ≤ left → (inside : Option Place) × ArePartsUpTo arena view begins first (stop_at (length view) inside)
    by_left zero begins first has inside few = at_end begins first (omega (arith, inside, few))
    by_left (suc left) begins first has inside few =
        elim (here_or_end first inside) [
          | inl here ↦
              let fit = len_fits arena begins (drop first view) has (omega (arith, here, length-drop first view)) in
              let some = fit.0 in
              let most = fit.1 in
              let stop = stop_from arena view begins first in
              let rest = by_left left stop.inside stop.end (inside_headed arena begins (drop first view)) (omega (arith, most, here, length-drop first view)) (omega (arith, few, some)) in
              (rest.0, record { stops = stop ∷ rest.1.stops; follow = (here, omega (arith, some), refl, rest.1.follow) })
          | inr at ↦ at_end begins first at
        ]

-- ## One part

next_later : (arena : Contents) (ids rest : List ℕ) (walk : Walk) (bodies : List Head) (waiting : List Opener) (ended : Ended) → next_end arena walk bodies waiting ids ≡ Some ended → next_end arena walk bodies waiting (ids ++ rest) ≡ Some ended
next_later arena [] rest walk bodies waiting ended is = absurd (none is)
  where
    none : None ≡ Some ended → ⊥
    none e = cc
next_later arena (id ∷ ids) rest walk bodies waiting ended is =
    by_reads (reading arena walk (around_of bodies waiting) id (item_class arena id)) (λ next. next_later arena ids rest (walk_behind next bodies behind opened id) (bodies_behind bodies behind opened) behind ended) is
  where
    behind : List Opener
    behind = waiting_behind (item_class arena id) walk.place waiting

    opened : Option Head
    opened = opened_head walk (around_of bodies waiting) bodies id (item_class arena id)

    end_by : List ℕ → Reading → Option Ended
    end_by ids read =
        elim read [
          | EndsOutside count ↦ Some (record { count = count; inside = None })
          | EndsInBody count ↦ Some (record { count = count; inside = Some (place_behind walk bodies) })
          | Never ↦ None
          | GoesOn next ↦ next_end arena (walk_behind next bodies behind opened id) (bodies_behind bodies behind opened) behind ids
        ]

    by_reads : (read : Reading)
        → ((next : Walk) → next_end arena (walk_behind next bodies behind opened id) (bodies_behind bodies behind opened) behind ids ≡ Some ended → next_end arena (walk_behind next bodies behind opened id) (bodies_behind bodies behind opened) behind (ids ++ rest) ≡ Some ended)
        → end_by ids read ≡ Some ended → end_by (ids ++ rest) read ≡ Some ended
    by_reads (EndsOutside count) on e = e
    by_reads (EndsInBody count) on e = e
    by_reads Never on e = absurd (none e)
      where
        none : None ≡ Some ended → ⊥
        none e = cc
    by_reads (GoesOn next) on e = on next e

-- a part whose end is told ends so, whatever follows what tells it
pub tell_one : (arena : Contents) (begins : Option Place) (told : List ℕ) (count : ℕ) (inside : Option Place) → TellParts arena begins told count inside → 0 < count → count < length told
    → (ended : Ended) × ((rest : List ℕ) → end_of_part arena begins (told ++ rest) ≡ Some ended)
tell_one arena begins told count inside tell some few = by_end (end_of_part arena begins told) refl
  where
    none_told : end_of_part arena begins told ≡ None → (stops : List PartStop) → FollowUpTo arena (told ++ []) begins 0 (stop_at (0 + count) inside) stops → ⊥
    none_told e [] follow = (let at : 0 ≡ 0 + count = ap (λ (s : PartStop). s.end) follow in omega (arith, at, some))
    none_told e (stop ∷ stops) follow =
        let upto = follow_order arena (told ++ []) stop.inside stop.end (stop_at (0 + count) inside) stops follow.3 in
        let at : stop.end ≡ 0 + part_len arena begins (told ++ []) = ap (λ (s : PartStop). s.end) follow.2 in
        let whole : part_len arena begins (told ++ []) ≡ length told = ap (λ (xs : List ℕ). part_len arena begins xs) (append-nil told) ∙ ap (λ (o : Option Ended). count_or o (length told)) e in
        omega (arith, upto, at, whole, few)

    by_end : (end : Option Ended) → end_of_part arena begins told ≡ end → (ended : Ended) × ((rest : List ℕ) → end_of_part arena begins (told ++ rest) ≡ Some ended)
    by_end None e = absurd (none_told e (tell [] []).stops (tell [] []).follow)
    by_end (Some ended) e = (ended, λ rest. next_later arena told rest (start begins) (bodies_at begins) (waiting_at begins) ended e)

-- ## What is told further

-- behind the first items of a view, which tell where parts end, others tell where more do
pub told_further : (arena : Contents) (before told behind : List ℕ) (begins inside : Option Place) (was now count : ℕ) → Increase (before ++ (told ++ behind)) → 0 < length told → was ≤ now → get_or told (length told - 1) 0 < now
    → BeginTold arena (items_between 0 was (before ++ (told ++ behind))) (length before) begins → TellParts arena begins told count inside
    → BeginTold arena (items_between 0 now (before ++ (told ++ behind))) (length before + count) inside
told_further arena before told behind begins inside was now count increase some later last begin tell rest =
    let view = before ++ (told ++ behind) in
    let both = before ++ told in
    let n = length both in
    let long : n ≡ length before + length told = length-append before told in
    let all : length view ≡ length before + length (told ++ behind) = length-append before (told ++ behind) in
    let tail : length (told ++ behind) ≡ length told + length behind = length-append told behind in
    let is : both ++ behind ≡ view = append_assoc before told behind in
    let at : get_or view (length before + (length told - 1)) 0 ≡ get_or told (length told - 1) 0 = get_or-append-add before (told ++ behind) (length told - 1) 0 ∙ get_or_append_left told behind 0 (length told - 1) (omega (arith, some)) in
    let below : (k : ℕ) → k < n → get_or view k 0 < now =
    λ k short.
    let order = in_order 0 view k (length before + (length told - 1)) increase (omega (arith, short, long, some)) (omega (arith, all, tail, some)) in
    omega (arith, order, at, last) in
    let cut : items_between 0 now view ≡ take n view ++ items_between 0 now (drop n view) = first_between now n view below (omega (arith, long, all, tail)) in
    let front : take n view ≡ both = ap (λ (xs : List ℕ). take n xs) (sym is) ∙ take-append_seam both behind in
    let more = items_between 0 now (drop n view) in
    let whole : items_between 0 now view ++ rest ≡ before ++ (told ++ (more ++ rest)) =
    ap (λ (xs : List ℕ). xs ++ rest) (cut ∙ ap (λ (xs : List ℕ). xs ++ more) front) ∙ (append_assoc both more rest ∙ append_assoc before told (more ++ rest)) in
    let second : ArePartsUpTo arena (items_between 0 now view ++ rest) begins (length before) (stop_at (length before + count) inside) =
    subst (λ (xs : List ℕ). ArePartsUpTo arena xs begins (length before) (stop_at (length before + count) inside)) (sym whole) (tell before (more ++ rest)) in
    let early : items_between 0 now view ++ rest ≡ items_between 0 was view ++ (items_between was now view ++ rest) =
    ap (λ (xs : List ℕ). xs ++ rest) (front_cut 0 was now view increase later) ∙ append_assoc (items_between 0 was view) (items_between was now view) rest in
    let first : ArePartsUpTo arena (items_between 0 now view ++ rest) None 0 (stop_at (length before) begins) =
    subst (λ (xs : List ℕ). ArePartsUpTo arena xs None 0 (stop_at (length before) begins)) (sym early) (begin (items_between was now view ++ rest)) in
    parts_joined arena (items_between 0 now view ++ rest) None 0 (stop_at (length before) begins) (stop_at (length before + count) inside) first second

-- so many items stand before the one at a place
pub place_of : (low : ℕ) (ids : List ℕ) (place : ℕ) → IncreaseFrom low ids → place < length ids → length (items_between 0 (get_or ids place 0) ids) ≡ place
place_of low [] place increase below = absurd (omega (arith, below))
place_of low (id ∷ ids) zero increase below = ap (λ (xs : List ℕ). length xs) (none_between id 0 id (id ∷ ids) (omega arith, increase.1) (omega arith))
place_of low (id ∷ ids) (suc place) increase below =
    let order = in_order low (id ∷ ids) 0 (suc place) increase (omega arith) below in
    let later = least (id + 1) ids place increase.1 (omega (arith, below)) in
    ap (λ (xs : List ℕ). length xs) (between_in 0 (get_or ids place 0) id ids (omega arith) (omega (arith, later))) ∙ ap suc (place_of (id + 1) ids place increase.1 (omega (arith, below)))
  where
    least : (low : ℕ) (ids : List ℕ) (k : ℕ) → IncreaseFrom low ids → k < length ids → low ≤ get_or ids k 0
    least low [] k increase below = absurd (omega (arith, below))
    least low (id ∷ ids) zero increase below = increase.0
    least low (id ∷ ids) (suc k) increase below = (let rest = least (id + 1) ids k increase.1 (omega (arith, below)) in omega (arith, rest, increase.0))

-- ## The list of bounds

-- the first bounds of a view
pub bounds_left : (arena : Contents) (view : List ℕ) (bounds : List KnownBound) (told n : ℕ) → n ≤ length bounds → AreBounds arena view bounds told
    → AreBounds arena view (take n bounds) (get_or bounds (n - 1) no_bound).told
bounds_left arena view bounds told n few are = record {
  each = λ k below. (let short = fits k below in subst (λ (b : KnownBound). IsBound arena view b.item b.told (place_in b.inside)) (sym (get_or-take n bounds k no_bound short)) (are.each k (omega (arith, short, few))));
  order = λ j k order below.
      let short = fits k below in
      let a = ap (λ (b : KnownBound). b.told) (get_or-take n bounds j no_bound (omega (arith, order, short))) in
      let b = ap (λ (b : KnownBound). b.told) (get_or-take n bounds k no_bound short) in
      let was = are.order j k order (omega (arith, short, few)) in
      omega (arith, a, b, was);
  most = λ k below.
      let short = fits k below in
      let b = ap (λ (b : KnownBound). b.told) (get_or-take n bounds k no_bound short) in
      let was = are.order k (n - 1) (omega (arith, short)) (omega (arith, short, few)) in
      omega (arith, b, was);
}
  where
    fits : (k : ℕ) → k < length (take n bounds) → k < n
    fits k below = omega (arith, below, length-take n bounds)

-- they are bounds of a view that has the same items before one that tells none of them
pub bounds_stay : (arena : Contents) (view next : List ℕ) (bounds : List KnownBound) (told first : ℕ) → told ≤ first → items_between 0 first next ≡ items_between 0 first view → AreBounds arena view bounds told → AreBounds arena next bounds told
bounds_stay arena view next bounds told first low same are = record {
  each = λ k below. (let most = are.most k below in bound_stays arena view next (get_or bounds k no_bound).item (get_or bounds k no_bound).told (place_in (get_or bounds k no_bound).inside) first (omega (arith, most, low)) same (are.each k below));
  order = are.order;
  most = are.most;
}

in_or_last : (k n : ℕ) → k < n + 1 → (k < n) ⊎ (k ≡ n)
in_or_last k n below = grind (arith, below)

-- and one more
pub bound_noted : (arena : Contents) (view : List ℕ) (bounds : List KnownBound) (told : ℕ) (bound : KnownBound) → told ≤ bound.told → IsBound arena view bound.item bound.told (place_in bound.inside) → AreBounds arena view bounds told
    → AreBounds arena view (bounds ++ (bound ∷ [])) bound.told
bound_noted arena view bounds told bound later is are = record {
  each = λ k below. elim (in_or_last k (length bounds) (short k below)) [
    | inl inside ↦ subst (λ (b : KnownBound). IsBound arena view b.item b.told (place_in b.inside)) (sym (early k inside)) (are.each k inside)
    | inr last ↦ subst (λ (b : KnownBound). IsBound arena view b.item b.told (place_in b.inside)) (sym (late k last)) is
  ];
  order = λ j k order below. elim (in_or_last k (length bounds) (short k below)) [
    | inl inside ↦
        let a = ap (λ (b : KnownBound). b.told) (early j (omega (arith, inside, order))) in
        let b = ap (λ (b : KnownBound). b.told) (early k inside) in
        let was = are.order j k order inside in
        omega (arith, a, b, was)
    | inr last ↦
        let b = ap (λ (b : KnownBound). b.told) (late k last) in
        let most = up_to j (omega (arith, order, below)) in
        omega (arith, b, most)
  ];
  most = up_to;
}
  where
    made : List KnownBound
    made = bounds ++ (bound ∷ [])

    short : (k : ℕ) → k < length made → k < length bounds + 1
    short k below = omega (arith, below, length-append bounds (bound ∷ []))

    early : (k : ℕ) → k < length bounds → get_or made k no_bound ≡ get_or bounds k no_bound
    early k inside = get_or_append_left bounds (bound ∷ []) no_bound k inside

    late : (k : ℕ) → k ≡ length bounds → get_or made k no_bound ≡ bound
    late k last =
        let e : k ≡ length bounds + 0 = omega (arith, last) in
        ap (λ j. get_or made j no_bound) e ∙ get_or-append-add bounds (bound ∷ []) 0 no_bound

    up_to : (k : ℕ) → k < length made → (get_or made k no_bound).told ≤ bound.told
    up_to k below = elim (in_or_last k (length bounds) (short k below)) [
      | inl inside ↦
          let a = ap (λ (b : KnownBound). b.told) (early k inside) in
          let was = are.most k inside in
          omega (arith, a, was, later)
      | inr last ↦ (let b = ap (λ (b : KnownBound). b.told) (late k last) in omega (arith, b))
    ]
