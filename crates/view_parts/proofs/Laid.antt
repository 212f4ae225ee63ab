-- Stretches of items that are laid out one behind another.
use Rattle.std.proofs.Common.{◌≡◌, ◌∙◌, ℕ, zero, suc, ◌+◌, ◌-◌, ◌<◌, ◌≤◌, Option, Some, None, List, [], ◌∷◌, ◌++◌, append-nil, append_assoc, length, map, take, drop, get_or, refl, sym, ap, subst, arith}
use Rattle.std.specs.List.{range_with_len}
use Rattle.std.specs.Option.{ForSome}
use Rattle.std.specs.Prelude.{slice_range}
use Rattle.std.proofs.lemmas.List.{get_or-drop, get_or-take, take_all, take_more}
use Rattle.token_arena.specs.declared.view.Segment.{Segment}
use Rattle.token_arena.specs.declared.view.Stretch.{Stretch}
use Rattle.token_arena.specs.Segments.{ids_of, AscendFrom, bounds_of, no_segment, segment_bounds}
use Rattle.part_walk.specs.declared.bodies.BodyKind.TheVariants.{Function}
use Rattle.part_walk.specs.declared.bodies.BodyPlace.{BodyPlace}
use Rattle.part_walk.specs.declared.bodies.Head.{Head}
use Rattle.view_parts.specs.Parts.{head_items, heads_end, opened_items, Stand, StandsBefore}
use Rattle.part_walk.specs.Places.{place_in, place_of}
use Rattle.view_parts.proofs.RowParts.{range_cut}

-- the last one isn't empty
pub last_some : (low : ℕ) (done : List Stretch) (last : Stretch) → AscendFrom low (map bounds_of (done ++ last ∷ [])) → last.first < last.end
last_some low [] last is = is.1
last_some low (stretch ∷ done) last is = last_some (stretch.end + 1) done last is.2

-- ## The last one goes on

pub longer_ascend : (low : ℕ) (done : List Stretch) (last next : Stretch) → next.first ≡ last.first → last.end ≤ next.end → AscendFrom low (map bounds_of (done ++ last ∷ [])) → AscendFrom low (map bounds_of (done ++ next ∷ []))
longer_ascend low [] last next e more is = (omega (arith, e, is.0), omega (arith, e, more, is.1), tt)
longer_ascend low (stretch ∷ done) last next e more is = (is.0, is.1, longer_ascend (stretch.end + 1) done last next e more is.2)

pub longer_items : (done : List Stretch) (last next : Stretch) → next.first ≡ last.first → last.first < last.end → last.end ≤ next.end
    → ids_of (map bounds_of (done ++ next ∷ [])) ≡ ids_of (map bounds_of (done ++ last ∷ [])) ++ range_with_len last.end (next.end - last.end)
longer_items [] last next e some more =
    let here = range_with_len last.first (last.end - last.first) in
    let at : last.first + (last.end - last.first) ≡ last.end = omega (arith, some) in
    let cut = range_cut last.first (last.end - last.first) (next.end - last.end) (next.end - last.first) (omega (arith, some, more)) in
    append-nil (range_with_len next.first (next.end - next.first))
    ∙ (ap (λ n. range_with_len n (next.end - n)) e ∙ (cut ∙ (ap (λ n. here ++ range_with_len n (next.end - last.end)) at ∙ ap (λ (xs : List ℕ). xs ++ range_with_len last.end (next.end - last.end)) (sym (append-nil here)))))
longer_items (stretch ∷ done) last next e some more =
    let here = range_with_len stretch.first (stretch.end - stretch.first) in
    ap (λ (xs : List ℕ). here ++ xs) (longer_items done last next e some more) ∙ sym (append_assoc here (ids_of (map bounds_of (done ++ last ∷ []))) (range_with_len last.end (next.end - last.end)))

-- ## Another one behind it

pub added_ascend : (low : ℕ) (done : List Stretch) (last next : Stretch) → last.end < next.first → next.first < next.end → AscendFrom low (map bounds_of (done ++ last ∷ [])) → AscendFrom low (map bounds_of ((done ++ last ∷ []) ++ next ∷ []))
added_ascend low [] last next apart some is = (is.0, is.1, (omega (arith, apart), some, tt))
added_ascend low (stretch ∷ done) last next apart some is = (is.0, is.1, added_ascend (stretch.end + 1) done last next apart some is.2)

pub added_items : (done : List Stretch) (last next : Stretch)
    → ids_of (map bounds_of ((done ++ last ∷ []) ++ next ∷ [])) ≡ ids_of (map bounds_of (done ++ last ∷ [])) ++ range_with_len next.first (next.end - next.first)
added_items [] last next =
    let here = range_with_len last.first (last.end - last.first) in
    let behind = range_with_len next.first (next.end - next.first) in
    ap (λ (xs : List ℕ). here ++ xs) (append-nil behind) ∙ ap (λ (xs : List ℕ). xs ++ behind) (sym (append-nil here))
added_items (stretch ∷ done) last next =
    let here = range_with_len stretch.first (stretch.end - stretch.first) in
    ap (λ (xs : List ℕ). here ++ xs) (added_items done last next) ∙ sym (append_assoc here (ids_of (map bounds_of (done ++ last ∷ []))) (range_with_len next.first (next.end - next.first)))

-- ## Segments

segments_items : (segments : List Segment) (last : Segment) → ids_of (map segment_bounds (segments ++ last ∷ [])) ≡ ids_of (map segment_bounds segments) ++ range_with_len last.first (last.end - last.first)
segments_items [] last = append-nil (range_with_len last.first (last.end - last.first))
segments_items (segment ∷ segments) last =
    let here = range_with_len segment.first (segment.end - segment.first) in
    ap (λ (xs : List ℕ). here ++ xs) (segments_items segments last) ∙ sym (append_assoc here (ids_of (map segment_bounds segments)) (range_with_len last.first (last.end - last.first)))

-- one more of them
pub more_items : (segments : List Segment) (n : ℕ) (old laid : List ℕ) (next : List ℕ) → n < length segments → laid ≡ old ++ ids_of (map segment_bounds (take n segments))
    → next ≡ laid ++ range_with_len (get_or segments n no_segment).first ((get_or segments n no_segment).end - (get_or segments n no_segment).first) → next ≡ old ++ ids_of (map segment_bounds (take (n + 1) segments))
more_items segments n old laid next below is more =
    let segment = get_or segments n no_segment in
    let here = range_with_len segment.first (segment.end - segment.first) in
    let behind = ids_of (map segment_bounds (take n segments)) in
    more ∙ (ap (λ (xs : List ℕ). xs ++ here) is ∙ (append_assoc old behind here
    ∙ ap (λ (xs : List ℕ). old ++ xs) (sym (ap (λ (ss : List Segment). ids_of (map segment_bounds ss)) (take_more segments n no_segment below) ∙ segments_items (take n segments) segment))))

pub segment_some : (low n : ℕ) (segments : List Segment) → AscendFrom low (map segment_bounds segments) → n < length segments → (get_or segments n no_segment).first < (get_or segments n no_segment).end
segment_some low n [] is below = absurd (omega (arith, below))
segment_some low zero (segment ∷ segments) is below = is.1
segment_some low (suc n) (segment ∷ segments) is below = segment_some (segment.end + 1) n segments is.2 (omega (arith, below))

next_behind : (low n : ℕ) (segments : List Segment) → AscendFrom low (map segment_bounds segments) → suc n < length segments → (get_or segments n no_segment).end ≤ (get_or segments (suc n) no_segment).first
next_behind low n [] is below = absurd (omega (arith, below))
next_behind low zero (segment ∷ []) is below = absurd (omega (arith, below))
next_behind low zero (segment ∷ next ∷ segments) is below = (let after = is.2.0 in omega (arith, after))
next_behind low (suc n) (segment ∷ segments) is below = next_behind (segment.end + 1) n segments is.2 (omega (arith, below))

pub segment_next : (n : ℕ) (segments : List Segment) → AscendFrom 0 (map segment_bounds segments) → n + 1 < length segments → (get_or segments n no_segment).end ≤ (get_or segments (n + 1) no_segment).first
segment_next n segments is below =
    let e : suc n ≡ n + 1 = omega arith in
    subst (λ k. (get_or segments n no_segment).end ≤ (get_or segments k no_segment).first) e (next_behind 0 n segments is (omega (arith, below)))

-- the first one begins with the first item
pub first_item : (low : ℕ) (segments : List Segment) → AscendFrom low (map segment_bounds segments) → 0 < length segments → get_or (ids_of (map segment_bounds segments)) 0 0 ≡ (get_or segments 0 no_segment).first
first_item low [] is some = absurd (omega (arith, some))
first_item low (segment ∷ segments) is some = by_count (segment.end - segment.first) (omega (arith, is.1))
  where
    by_count : (n : ℕ) → 0 < n → get_or (range_with_len segment.first n ++ ids_of (map segment_bounds segments)) 0 0 ≡ segment.first
    by_count zero some = absurd (omega (arith, some))
    by_count (suc n) some = refl

-- the first item of a part of a view
pub first_of : (view : List ℕ) (first end : ℕ) → first < end → get_or (slice_range view first end) 0 0 ≡ get_or view first 0
first_of view first end some = (let here : first + 0 ≡ first = omega arith in get_or-take (end - first) (drop first view) 0 0 (omega (arith, some)) ∙ (get_or-drop first view 0 0 ∙ ap (λ k. get_or view k 0) here))

-- ## Heads

-- what a list of heads has past its end
abbrev pub no_head : Head
no_head = record { first = 0; end = 0; kind = Function }

pub stands_so : (begins : Option BodyPlace) (place : BodyPlace) (id : ℕ) → begins ≡ Some place → ForSome (place_in begins) (λ p. StandsBefore p id) → StandsBefore (place_of place) id
stands_so begins place id is stands = stands (place_of place) (ap (λ (o : Option BodyPlace). place_in o) is)

-- the outermost of these heads, and the others behind it
pub record AreOutermost (heads : List Head) (head : Head) (rest : List Head) : Type 0 where
  pub some : head.first < head.end
  pub stand : Stand head.end rest
  pub end : heads_end head.end rest ≡ heads_end 0 heads
  pub items : range_with_len head.first (head.end - head.first) ++ head_items rest ≡ head_items heads

pub outermost : (heads : List Head) → 0 < length heads → Stand 0 heads → AreOutermost heads (get_or heads 0 no_head) (take (length heads - 1) (drop 1 heads))
outermost [] some stand = absurd (omega (arith, some))
outermost (head ∷ heads) some stand =
    subst (λ (hs : List Head). AreOutermost (head ∷ heads) head hs) (sym (take_all (suc (length heads) - 1) heads (omega arith))) (record { some = stand.1; stand = stand.2; end = refl; items = refl })

one_item : (id : ℕ) → range_with_len id (id + 1 - id) ≡ id ∷ []
one_item id = (let one : id + 1 - id ≡ 1 = omega arith in ap (λ n. range_with_len id n) one)

pub opened_one : (opened : Option ℕ) (id : ℕ) (old next : List ℕ) → opened ≡ Some id → next ≡ old ++ range_with_len id (id + 1 - id) → next ≡ old ++ opened_items opened
opened_one opened id old next is more = more ∙ (ap (λ (xs : List ℕ). old ++ xs) (one_item id) ∙ ap (λ (o : Option ℕ). old ++ opened_items o) (sym is))

pub opened_none : (opened : Option ℕ) (old next : List ℕ) → opened ≡ None → next ≡ old → next ≡ old ++ opened_items opened
opened_none opened old next is same = same ∙ (sym (append-nil old) ∙ ap (λ (o : Option ℕ). old ++ opened_items o) (sym is))

-- what is laid out behind the outermost head, one list behind another
pub laid_so : (heads : List Head) (opened : Option ℕ) (ended : ℕ) (head : Head) (rest : List Head) (bodies statement place own laid : List ℕ) → AreOutermost heads head rest
    → bodies ≡ (range_with_len head.first (head.end - head.first) ++ []) ++ head_items rest → statement ≡ bodies ++ opened_items opened → place ≡ statement ++ range_with_len ended (ended + 1 - ended) → laid ≡ place ++ own
    → laid ≡ (head_items heads ++ (opened_items opened ++ ended ∷ [])) ++ own
laid_so heads opened ended head rest bodies statement place own laid outer bodies_are statement_is place_is is =
    let here = range_with_len head.first (head.end - head.first) in
    let all : bodies ≡ head_items heads = bodies_are ∙ (ap (λ (xs : List ℕ). xs ++ head_items rest) (append-nil here) ∙ outer.items) in
    let behind = opened_items opened in
    is
    ∙ ap (λ (xs : List ℕ). xs ++ own) (place_is
    ∙ (ap (λ (xs : List ℕ). statement ++ xs) (one_item ended) ∙ (ap (λ (xs : List ℕ). xs ++ ended ∷ []) (statement_is ∙ ap (λ (xs : List ℕ). xs ++ behind) all) ∙ append_assoc (head_items heads) behind (ended ∷ []))))
