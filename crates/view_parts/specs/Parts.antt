-- The parts of a view: docs/PROFILE.md, "Parts".
use Rattle.std.specs.Prelude.{⊤, ◌≡◌, ◌<◌, ◌≤◌, ℕ, zero, suc, ◌+◌, ◌-◌, nat_lt, if◌then◌else◌, Option, Some, None, List}
use Rattle.std.specs.Prelude.{[], ◌∷◌, ◌++◌, length, drop, slice_range}
use Rattle.std.specs.Option.{ForSome}
use Rattle.std.specs.List.{range_with_len}
use Rattle.token_arena.specs.Gaps.{Contents}
use Rattle.item_classes.specs.Viewed.{item_class}
use Rattle.token_classes.specs.declared.pairing.Opener.{Opener}
use Rattle.part_walk.specs.Places.{Place}
use Rattle.part_walk.specs.declared.bodies.Head.{Head}
use Rattle.part_walk.specs.declared.walk.Walk.{Walk}
use Rattle.part_walk.specs.Reading.{EndsOutside, EndsInBody, Never, GoesOn}
use Rattle.part_walk.specs.Walk.{start, reading, opened_head, heads_len}
use Rattle.part_walk.specs.Brackets.{waiting_behind, waiting_at, bodies_at, around_of, bodies_behind, walk_behind}
use Rattle.part_walk.specs.Brackets.{place_behind}

-- where a part ends
pub record Ended : Type 0 where
  -- behind how many of its items
  pub count : ℕ
  -- where that is in a body, if it is in one
  pub inside : Option Place

-- where a part ends, read so far, where these bodies are open, these openers wait and these items follow; none where it
-- goes on up to their end
abbrev pub next_end : Contents → Walk → List Head → List Opener → List ℕ → Option Ended
next_end arena walk bodies waiting [] = None
next_end arena walk bodies waiting (id ∷ ids) =
    let stands = around_of bodies waiting in
    elim (reading arena walk stands id (item_class arena id)) [
      | EndsOutside count ↦ Some (record { count = count; inside = None })
      | EndsInBody count ↦ Some (record { count = count; inside = Some (place_behind walk bodies) })
      | Never ↦ None
      | GoesOn next ↦
          let opened = opened_head walk stands bodies id (item_class arena id) in
          let waiting_next = waiting_behind (item_class arena id) walk.place waiting in
          next_end arena (walk_behind next bodies waiting_next opened id) (bodies_behind bodies waiting_next opened)
          waiting_next ids
    ]

-- where the part ends that begins with these items, outside brackets or at this place of a body: that depends on them
-- alone, whatever else stands before them
abbrev pub end_of_part : Contents → Option Place → List ℕ → Option Ended
end_of_part arena begins ids = next_end arena (start begins) (bodies_at begins) (waiting_at begins) ids

abbrev pub count_or : Option Ended → ℕ → ℕ
count_or None all = all
count_or (Some ended) all = ended.count

abbrev pub inside_of : Option Ended → Option Place
inside_of None = None
inside_of (Some ended) = ended.inside

-- how many of these items are the first part
abbrev pub part_len : Contents → Option Place → List ℕ → ℕ
part_len arena begins ids = count_or (end_of_part arena begins ids) (length ids)

-- the place of a body where the next part begins, if it begins in one
abbrev pub part_inside : Contents → Option Place → List ℕ → Option Place
part_inside arena begins ids = inside_of (end_of_part arena begins ids)

-- where a part of a view ends
pub record PartStop : Type 0 where
  -- the place behind its last item
  pub end : ℕ
  -- where that is in a body, if it is in one
  pub inside : Option Place

-- where the part of a view ends that begins at this place
abbrev pub stop_from : Contents → List ℕ → Option Place → ℕ → PartStop
stop_from arena ids begins first =
    record
    { end = first + part_len arena begins (drop first ids); inside = part_inside arena begins (drop first ids) }

-- where each part from this place on ends; each part has an item, so the number of places suffices for `n`
abbrev pub ends_from : ℕ → Contents → List ℕ → Option Place → ℕ → List PartStop
ends_from zero arena ids begins first = []
ends_from (suc n) arena ids begins first =
    if nat_lt first (length ids)
    then (let stop = stop_from arena ids begins first in stop ∷ ends_from n arena ids stop.inside stop.end)
    else []

-- where each part of a view ends
abbrev pub part_ends : Contents → List ℕ → List PartStop
part_ends arena ids = ends_from (length ids) arena ids None 0

-- ## What stands for a place of a body

abbrev pub opened_items : Option ℕ → List ℕ
opened_items None = []
opened_items (Some opened) = opened ∷ []

-- the items of heads, one behind another
abbrev pub head_items : List Head → List ℕ
head_items [] = []
head_items (head ∷ heads) = range_with_len head.first (head.end - head.first) ++ head_items heads

-- the heads of the bodies that are open there, and the end of the statement before
abbrev pub items_of_place : Place → List ℕ
items_of_place place = head_items place.heads ++ (opened_items place.opened ++ place.ended ∷ [])

abbrev pub items_before : Option Place → List ℕ
items_before None = []
items_before (Some place) = items_of_place place

-- the items that are laid out for a part of a view, from one place to before another: those that stand for the place of
-- a body where it begins, and its own
abbrev pub laid_items : Option Place → List ℕ → ℕ → ℕ → List ℕ
laid_items begins ids first end = items_before begins ++ slice_range ids first end

-- heads stand one behind another, from this item on
abbrev pub Stand : ℕ → List Head → Type 0
Stand low [] = ⊤
Stand low (head ∷ heads) = (low ≤ head.first) × (head.first < head.end) × Stand head.end heads

-- the item behind them, where none before this one is
abbrev pub heads_end : ℕ → List Head → ℕ
heads_end low [] = low
heads_end low (head ∷ heads) = heads_end head.end heads

-- they stand in order, and before this item
pub record StandsBefore (place : Place) (id : ℕ) : Type 0 where
  pub some : 0 < length place.heads
  pub few : heads_len place.heads ≤ 64
  pub stand : Stand 0 place.heads
  pub opened : ForSome place.opened (λ opened. (heads_end 0 place.heads ≤ opened) × (opened < place.ended))
  pub ended : heads_end 0 place.heads ≤ place.ended
  pub before : place.ended < id

-- ## What items tell

-- These items tell where a part ends that they begin, outside brackets or at this place of a body, whatever follows
-- them.
abbrev pub EndsBehind : Contents → Option Place → List ℕ → Ended → Type 0
EndsBehind arena begins ids ended = (rest : List ℕ) → end_of_part arena begins (ids ++ rest) ≡ Some ended

-- the parts of a view that begin at this place, one behind another, end so, the last at this place
abbrev pub FollowUpTo : Contents → List ℕ → Option Place → ℕ → PartStop → List PartStop → Type 0
FollowUpTo arena view begins first last [] = record { end = first; inside = begins } ≡ last
FollowUpTo arena view begins first last (stop ∷ stops) =
    (first < length view) × (first < stop.end) × (stop ≡ stop_from arena view begins first)
    × FollowUpTo arena view stop.inside stop.end last stops

-- parts of a view begin at this place, one behind another, the last of which ends so
pub record ArePartsUpTo (arena : Contents) (view : List ℕ) (begins : Option Place) (first : ℕ) (last : PartStop) :
    Type 0 where
  pub stops : List PartStop
  pub follow : FollowUpTo arena view begins first last stops
