-- What stands for the places of bodies where parts of a view begin stands before them, in the view.
use Rattle.std.proofs.Common.{◌≡◌, ◌∙◌, inl, inr, ℕ, zero, suc, ◌+◌, ◌*◌, ◌-◌, ◌<◌, ◌≤◌, nat_lt, Bool, true, false}
use Rattle.std.proofs.Common.{Option, Some, None, List, [], ◌∷◌, ◌++◌, length, length-append, get_or, drop, refl, sym}
use Rattle.std.proofs.Common.{ap, subst, arith}
use Rattle.std.specs.Prelude.{⊤, All, IsSome, if◌then◌else◌, slice_range}
use Rattle.std.specs.Option.{ForNone, ForSome}
use Rattle.std.specs.List.{range_with_len}
use Rattle.std.proofs.lemmas.List.{get_or-drop, get_or_default, length-drop}
use Rattle.std.proofs.lemmas.List.Elements.{All-append, All-nil}
use Rattle.std.proofs.lemmas.List.FromFn.{length-range_with_len, get_or-range_with_len}
use Rattle.token_arena.specs.Gaps.{Contents}
use Rattle.token_arena.specs.Ids.{Increase, IncreaseFrom}
use Rattle.part_walk.specs.Places.{Place}
use Rattle.part_walk.specs.declared.bodies.Head.{Head}
use Rattle.view_parts.specs.Parts.{PartStop, Stand, StandsBefore, ends_from, head_items, heads_end, items_before}
use Rattle.view_parts.specs.Parts.{items_of_place, laid_items, opened_items, part_ends, part_inside, part_len}
use Rattle.view_parts.specs.Parts.{stop_from, FollowUpTo}
use Rattle.part_walk.specs.Walk.{heads_len}
use Rattle.view_parts.proofs.InBodies.{places_have, stands_before}
use Rattle.view_parts.proofs.InOrder.{HasHeads}
use Rattle.replacements.specs.declared.slot.Slot.{Slot}
use Rattle.replacements.specs.Decisions.{slot_of}
use Rattle.run_parts.proofs.Between.{in_order, looser}
use Rattle.run_parts.proofs.Parts.{before_or_behind, part_length}

-- ## Heads

-- the item behind them stands behind all of them
heads_low : (low : ℕ) (heads : List Head) → Stand low heads → low ≤ heads_end low heads
heads_low low [] stand = omega arith
heads_low low (head ∷ heads) stand = (let rest = heads_low head.end heads stand.2 in omega (arith, stand.0, stand.1, rest))

heads_before : (low : ℕ) (heads : List Head) → Stand low heads → All (λ i. i < heads_end low heads) (head_items heads)
heads_before low [] stand = All-nil (λ i. i < low)
heads_before low (head ∷ heads) stand = All-append (λ i. i < heads_end head.end heads) (range_with_len head.first (head.end - head.first)) (head_items heads) own (heads_before head.end heads stand.2)
  where
    own : All (λ i. i < heads_end head.end heads) (range_with_len head.first (head.end - head.first))
    own k d below =
        let few : k < head.end - head.first = omega (arith, below, length-range_with_len head.first (head.end - head.first)) in
        let at = get_or-range_with_len head.first (head.end - head.first) k d few in
        let rest = heads_low head.end heads stand.2 in
        omega (arith, at, few, rest)

-- so many they are
heads_many : (heads : List Head) → length (head_items heads) ≡ heads_len heads
heads_many [] = refl
heads_many (head ∷ heads) =
    let own = range_with_len head.first (head.end - head.first) in
    omega (arith, length-append own (head_items heads), length-range_with_len head.first (head.end - head.first), heads_many heads)

-- ## One place

-- what stands for a place before an item are items before it
of_place : (place : Place) (id : ℕ) → StandsBefore place id → All (λ i. i < id) (items_of_place place)
of_place place id stands =
    All-append (λ i. i < id) (head_items place.heads) (opened_items place.opened ++ (place.ended ∷ [])) heads
    (All-append (λ i. i < id) (opened_items place.opened) (place.ended ∷ []) (opens place.opened stands.opened) (λ k d below. last k d below))
  where
    heads : All (λ i. i < id) (head_items place.heads)
    heads k d below =
        let early = heads_before 0 place.heads stands.stand k d below in
        let end = stands.ended in
        let low = stands.before in
        omega (arith, early, end, low)

    opens : (opened : Option ℕ) → ForSome opened (λ opened. (heads_end 0 place.heads ≤ opened) × (opened < place.ended)) → All (λ i. i < id) (opened_items opened)
    opens None here = All-nil (λ i. i < id)
    opens (Some opened) here = λ k d below. one k d below
      where
        one : (k d : ℕ) → k < length (opened ∷ []) → get_or (opened ∷ []) k d < id
        one zero d below =
            let inside = (here opened refl).1 in
            let low = stands.before in
            omega (arith, inside, low)
        one (suc k) d below = absurd (omega (arith, below))

    last : (k d : ℕ) → k < length (place.ended ∷ []) → get_or (place.ended ∷ []) k d < id
    last zero d below = stands.before
    last (suc k) d below = absurd (omega (arith, below))

pub all_before : (begins : Option Place) (id : ℕ) → ForSome begins (λ place. StandsBefore place id) → All (λ i. i < id) (items_before begins)
all_before None id here = All-nil (λ i. i < id)
all_before (Some place) id here = of_place place id (here place refl)

-- it stands in bodies
pub stands_headed : (begins : Option Place) (id : ℕ) → ForSome begins (λ place. StandsBefore place id) → HasHeads begins
stands_headed None id here = tt
stands_headed (Some place) id here = (here place refl).some

-- and they are few
pub few_before : (begins : Option Place) (id : ℕ) → ForSome begins (λ place. StandsBefore place id) → length (items_before begins) ≤ 66
few_before None id here = omega arith
few_before (Some place) id here =
    let stands = here place refl in
    let few = stands.few in
    let rest = opened_items place.opened ++ (place.ended ∷ []) in
    omega (arith, few, length-append (head_items place.heads) rest, heads_many place.heads, length-append (opened_items place.opened) (place.ended ∷ []), opens place.opened)
  where
    opens : (opened : Option ℕ) → length (opened_items opened) ≤ 1
    opens None = omega arith
    opens (Some opened) = omega arith

-- so are those that are laid out for a part
pub laid_few : (begins : Option Place) (ids : List ℕ) (first end : ℕ) → first < end → end ≤ length ids → ForSome begins (λ place. StandsBefore place (get_or ids first 0)) → length (laid_items begins ids first end) ≤ 67 * (end - first)
laid_few begins ids first end some inside here =
    omega (arith, some, inside, few_before begins (get_or ids first 0) here, length-append (items_before begins) (slice_range ids first end), part_length ids first end)

-- a value is there
pub never_none : {T : Type 0} (x : T) (P : Type 0) → ForNone (Some x) P
never_none x P = λ e. absurd (some_isnt x e)
  where
    some_isnt : {T : Type 0} (x : T) → Some x ≡ None → ⊥
    some_isnt x e = cc

-- outside brackets nothing stands for the place
pub none_before : (P : ℕ → Type 0) (begins : Option Place) → begins ≡ None → All P (items_before begins)
none_before P begins is = subst (λ (b : Option Place). All P (items_before b)) (sym is) (All-nil P)

pub none_stands : (begins : Option Place) (id : ℕ) → begins ≡ None → ForSome begins (λ place. StandsBefore place id)
none_stands begins id is = λ place e. absurd (unlike place (sym is ∙ e))
  where
    unlike : (place : Place) → None ≡ Some place → ⊥
    unlike place e = cc

-- ## Places of a view

pub rest_increases : (low n : ℕ) (ids : List ℕ) → IncreaseFrom low ids → IncreaseFrom low (drop n ids)
rest_increases low zero ids increase = increase
rest_increases low (suc n) [] increase = tt
rest_increases low (suc n) (id ∷ ids) increase = looser (id + 1) low (drop n ids) (omega (arith, increase.0)) (rest_increases (id + 1) n ids increase.1)

pub stands_in_rest : (view : List ℕ) (begins : Option Place) (first : ℕ) → ForSome begins (λ place. StandsBefore place (get_or view first 0)) → ForSome begins (λ place. StandsBefore place (get_or (drop first view) 0 0))
stands_in_rest view begins first stands = λ place is.
    let e : first + 0 ≡ first = omega arith in
    subst (λ id. StandsBefore place id) (sym (get_or-drop first view 0 0 ∙ ap (λ k. get_or view k 0) e)) (stands place is)

-- what stands for the place behind a part has what its items have and those that stand for its own place
pub next_has : (P : ℕ → Type 0) (arena : Contents) (view : List ℕ) (begins inside : Option Place) (first : ℕ) → Increase view → ForSome begins (λ place. StandsBefore place (get_or view first 0)) → All P (items_before begins) → All P (drop first view)
    → inside ≡ part_inside arena begins (drop first view) → All P (items_before inside)
next_has P arena view begins inside first increase stands before all is =
    subst (λ (b : Option Place). All P (items_before b)) (sym is) (places_have P arena begins (drop first view) 0 (rest_increases 0 first view increase) (stands_in_rest view begins first stands) before all)

pub rest_have : (P : ℕ → Type 0) (view : List ℕ) (first : ℕ) → All P view → All P (drop first view)
rest_have P view first all = λ k d below.
    let far : first + k < length view = omega (arith, below, length-drop first view) in
    subst P (sym (get_or-drop first view k d)) (all (first + k) d far)

-- an item of a view, at this place or behind it
abbrev pub StandsFrom : List ℕ → ℕ → ℕ → Type 0
StandsFrom ids base id = (k : ℕ) × (base ≤ k) × (k < length ids) × (get_or ids k 0 ≡ id)

-- what stands for the place where a part begins stands in the view, from this place on and before the part
pub record IsPlaced (ids : List ℕ) (base : ℕ) (begins : Option Place) (first : ℕ) : Type 0 where
  pub order : base ≤ first
  pub items : All (λ id. StandsFrom ids base id) (items_before begins)
  pub before : ForSome begins (λ place. StandsBefore place (get_or ids first 0))

pub placed_outside : (ids : List ℕ) (base : ℕ) → IsPlaced ids base None base
placed_outside ids base = record { order = omega arith; items = All-nil (λ id. StandsFrom ids base id); before = none_stands None (get_or ids base 0) refl }

-- so it is behind the part
pub placed_next : (arena : Contents) (ids : List ℕ) (base : ℕ) (begins : Option Place) (first : ℕ) → Increase ids → IsPlaced ids base begins first
    → IsPlaced ids base (part_inside arena begins (drop first ids)) (first + part_len arena begins (drop first ids))
placed_next arena ids base begins first increase placed =
    let rest = drop first ids in
    let n = part_len arena begins rest in
    let order = placed.order in
    let later = stands_before arena begins rest 0 (rest_increases 0 first ids increase) (stands_in_rest ids begins first placed.before) in
    record {
      order = omega (arith, order);
      items = next_has (λ id. StandsFrom ids base id) arena ids begins (part_inside arena begins rest) first increase placed.before placed.items (λ k d below.
          let inside : first + k < length ids = omega (arith, below, length-drop first ids) in
          (first + k, omega (arith, order), inside, get_or_default ids (first + k) 0 d inside ∙ sym (get_or-drop first ids k d))) refl;
      before = λ place is. subst (λ id. StandsBefore place id) (get_or-drop first ids n 0) (later place is);
    }

-- it has what all items of the view have
pub placed_has : (P : ℕ → Type 0) (ids : List ℕ) (base : ℕ) (begins : Option Place) (first : ℕ) → All P ids → IsPlaced ids base begins first → All P (items_before begins)
placed_has P ids base begins first all placed = λ k d below.
    let stands = placed.items k d below in
    subst P stands.3 (all stands.0 0 stands.2)

-- its gaps are decided where those of the items of the view are, from this place up to the part
pub placed_decided : (plan : List (Option Slot)) (ids : List ℕ) (base : ℕ) (begins : Option Place) (first : ℕ) → Increase ids → IsPlaced ids base begins first
    → ((k : ℕ) → base ≤ k → k < first → IsSome (slot_of plan (get_or ids k 0))) → All (λ id. IsSome (slot_of plan id)) (items_before begins)
placed_decided plan ids base begins first increase placed some = λ k d below.
    let id = get_or (items_before begins) k d in
    let early : id < get_or ids first 0 = all_before begins (get_or ids first 0) placed.before k d below in
    let stands = placed.items k d below in
    let at = stands.3 in
    elim (before_or_behind stands.0 first) [
      | inl inside ↦ subst (λ i. IsSome (slot_of plan i)) at (some stands.0 stands.1 inside)
      | inr late ↦
          let order = in_order 0 ids first stands.0 increase late stands.2 in
          absurd (omega (arith, order, at, early))
    ]

-- and so it is behind parts that follow one another
pub placed_behind : (arena : Contents) (ids : List ℕ) (base : ℕ) (begins : Option Place) (first : ℕ) (last : PartStop) (stops : List PartStop) → Increase ids → FollowUpTo arena ids begins first last stops → IsPlaced ids base begins first
    → IsPlaced ids base last.inside last.end
placed_behind arena ids base begins first last [] increase follow placed = subst (λ (s : PartStop). IsPlaced ids base s.inside s.end) follow placed
placed_behind arena ids base begins first last (stop ∷ stops) increase follow placed =
    let next : IsPlaced ids base stop.inside stop.end = subst (λ (s : PartStop). IsPlaced ids base s.inside s.end) (sym follow.2) (placed_next arena ids base begins first increase placed) in
    placed_behind arena ids base stop.inside stop.end last stops increase follow.3 next

-- ## All parts of a view

-- all items that stand for the places where parts end have this property
abbrev pub PlacesHave : (ℕ → Type 0) → List PartStop → Type 0
PlacesHave P [] = ⊤
PlacesHave P (stop ∷ stops) = All P (items_before stop.inside) × PlacesHave P stops

stops_have : (P : ℕ → Type 0) (n : ℕ) (arena : Contents) (ids : List ℕ) (begins : Option Place) (first : ℕ) → Increase ids → All P ids → IsPlaced ids 0 begins first → PlacesHave P (ends_from n arena ids begins first)
stops_have P zero arena ids begins first increase all placed = tt
stops_have P (suc n) arena ids begins first increase all placed =
    let stop = stop_from arena ids begins first in
    let next : IsPlaced ids 0 stop.inside stop.end = placed_next arena ids 0 begins first increase placed in
    by_here (nat_lt first (length ids)) stop (ends_from n arena ids stop.inside stop.end) (placed_has P ids 0 stop.inside stop.end all next) (stops_have P n arena ids stop.inside stop.end increase all next)
  where
    by_here : (here : Bool) (stop : PartStop) (stops : List PartStop) → All P (items_before stop.inside) → PlacesHave P stops → PlacesHave P (if here then stop ∷ stops else [])
    by_here true stop stops next rest = (next, rest)
    by_here false stop stops next rest = tt

-- they have what all items of the view have
pub part_places_have : (P : ℕ → Type 0) (arena : Contents) (ids : List ℕ) → Increase ids → All P ids → PlacesHave P (part_ends arena ids)
part_places_have P arena ids increase all = stops_have P (length ids) arena ids None 0 increase all (placed_outside ids 0)
