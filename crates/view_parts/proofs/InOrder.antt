-- The parts cut a view whole and in order.
use Rattle.std.proofs.Common.{◌≡◌, ℕ, zero, suc, ◌+◌, ◌-◌, ◌<◌, ◌≤◌, Bool, true, false, ◌==◌, nat_lt, Option, Some}
use Rattle.std.proofs.Common.{None, List, [], ◌∷◌, append-nil, length, take, drop, refl, sym, subst, arith}
use Rattle.std.specs.Prelude.{⊤, if◌then◌else◌}
use Rattle.std.proofs.lemmas.Bool.{eqb-true, ltb-true, ltb-false}
use Rattle.std.proofs.lemmas.List.{length-drop, length-reverse, length-take-le}
use Rattle.token_arena.specs.Gaps.{Contents}
use Rattle.token_classes.specs.declared.class.TokenClass.{TokenClass}
use Rattle.token_classes.specs.Classes.{is_word}
use Rattle.item_classes.specs.Viewed.{item_class}
use Rattle.token_classes.specs.declared.pairing.Opener.{Opener}
use Rattle.part_walk.specs.declared.walk.Around.{Around}
use Rattle.part_walk.specs.declared.walk.Around.TheVariants as around
use Rattle.part_walk.specs.declared.bodies.Head.{Head}
use Rattle.part_walk.specs.declared.walk.Walk.{Walk}
use Rattle.part_walk.specs.Places.{Place}
use Rattle.part_walk.specs.Reading.{Reading, EndsOutside, EndsInBody, Never, GoesOn}
use Rattle.part_walk.specs.Walk.{start, reading, opened_head, outside, asked_at, ends_or, is_end, is_lost}
use Rattle.part_walk.specs.Walk.{ends_statement}
use Rattle.view_parts.specs.Parts.{Ended, PartStop, count_or, end_of_part, inside_of, next_end, part_inside, part_len}
use Rattle.view_parts.specs.Parts.{ends_from, part_ends, stop_from, EndsBehind}
use Rattle.part_walk.specs.Brackets.{around_of, bodies_at, bodies_behind, braces_of, waiting_at, waiting_behind}
use Rattle.part_walk.specs.Brackets.{walk_behind}
use Rattle.view_parts.proofs.Walked.{IsAsked, Fits, behind_asked, behind_place, bodies_past, by_reading, fits}
use Rattle.view_parts.proofs.Walked.{walk_past}

-- these are the ends of parts that cut the places from one to before another whole and in order
abbrev pub AreEnds : ℕ → ℕ → List PartStop → Type 0
AreEnds from count [] = from ≡ count
AreEnds from count (stop ∷ stops) = (from < stop.end) × AreEnds stop.end count stops

-- a part of items that go on ends behind the first one, and before the one that tells it
abbrev pub IsEnd : ℕ → Option Ended → Type 0
IsEnd count None = ⊤
IsEnd count (Some ended) = (0 < ended.count) × (ended.count < count)

-- it isn't asked before the first item
record Begins (walk : Walk) (bodies : List Head) (waiting : List Opener) : Type 0 where
  later : around_of bodies waiting ≡ around.Outside → is_end walk.declaration.before ≡ true → 0 < walk.place
  told : ends_statement walk.last ≡ true → 0 < walk.place

within : (arena : Contents) (ids : List ℕ) (walk : Walk) (bodies : List Head) (waiting : List Opener) → Begins walk bodies waiting → IsAsked walk.place walk.asked → IsEnd (walk.place + length ids) (next_end arena walk bodies waiting ids)
within arena [] walk bodies waiting begins asked = tt
within arena (id ∷ ids) walk bodies waiting begins asked =
    let stands = around_of bodies waiting in
    let after = waiting_behind (item_class arena id) walk.place waiting in
    let opened = opened_head walk stands bodies id (item_class arena id) in
    by_reads (reading arena walk stands id (item_class arena id)) (fits arena walk stands id (item_class arena id) (record { later = begins.later; told = begins.told; asked = asked }))
    (λ next one was.
    let past = walk_behind next bodies after opened id in
    let at : past.place ≡ next.place = behind_place next bodies after opened id in
    let asks : IsAsked past.place past.asked = subst (λ (o : Option ℕ). IsAsked past.place o) (sym (behind_asked next bodies after opened id)) (subst (λ n. IsAsked n next.asked) (sym at) was) in
    subst (λ n. IsEnd (n + length ids) (next_end arena past (bodies_behind bodies after opened) after ids)) at
    (within arena ids past (bodies_behind bodies after opened) after (record { later = λ e f. omega (arith, at, one); told = λ e. omega (arith, at, one) }) asks))
  where
    by_reads : (read : Reading) → Fits walk read
        → ((next : Walk) → next.place ≡ walk.place + 1 → IsAsked next.place next.asked
        → IsEnd (next.place + length ids) (next_end arena (walk_past arena walk bodies waiting id next (waiting_behind (item_class arena id) walk.place waiting)) (bodies_past arena walk bodies waiting id (waiting_behind (item_class arena id) walk.place waiting))
        (waiting_behind (item_class arena id) walk.place waiting) ids))
        → IsEnd (walk.place + suc (length ids)) (by_reading arena walk (around_of bodies waiting) bodies (waiting_behind (item_class arena id) walk.place waiting) id ids read)
    by_reads (EndsOutside count) fit on = (fit.0, omega (arith, fit.1))
    by_reads (EndsInBody count) fit on = (fit.0, omega (arith, fit.1))
    by_reads Never fit on = tt
    by_reads (GoesOn next) fit on =
        let e : next.place + length ids ≡ walk.place + suc (length ids) = omega (arith, fit.0) in
        let after = waiting_behind (item_class arena id) walk.place waiting in
        subst (λ n. IsEnd n (next_end arena (walk_past arena walk bodies waiting id next after) (bodies_past arena walk bodies waiting id after) after ids)) e (on next fit.0 fit.1)

-- where a part begins in bodies, they have heads
abbrev pub HasHeads : Option Place → Type 0
HasHeads None = ⊤
HasHeads (Some place) = 0 < length place.heads

pub end_fits : (arena : Contents) (begins : Option Place) (ids : List ℕ) → HasHeads begins → IsEnd (length ids) (end_of_part arena begins ids)
end_fits arena begins ids has =
    let e : 0 + length ids ≡ length ids = omega arith in
    subst (λ n. IsEnd n (end_of_part arena begins ids)) e (at_start begins has)
  where
    some_waits : (bodies heads : List Head) → 0 < length heads → around_of bodies (braces_of heads) ≡ around.Outside → ⊥
    some_waits bodies [] some e = omega (arith, some)
    some_waits bodies (head ∷ heads) some e = by_test (suc (length (braces_of heads)) == length bodies) e
      where
        by_test : (same : Bool) → (if same then around.Body else around.Group) ≡ around.Outside → ⊥
        by_test true e = cc
        by_test false e = cc

    at_start : (begins : Option Place) → HasHeads begins → IsEnd (0 + length ids) (end_of_part arena begins ids)
    at_start None has = within arena ids (start None) (bodies_at None) (waiting_at None) (record { later = λ e f. cc; told = λ e. cc }) tt
    at_start (Some place) has = within arena ids (start (Some place)) (bodies_at (Some place)) (waiting_at (Some place)) (record { later = λ e f. absurd (some_waits (bodies_at (Some place)) place.heads has e); told = λ e. cc }) tt

-- a part that ends in a body ends in one whose head is known
some_bodies : (bodies : List Head) (waiting : List Opener) → around_of bodies waiting ≡ around.Body → 0 < length bodies
some_bodies bodies [] e = absurd (differ e)
  where
    differ : around.Outside ≡ around.Body → ⊥
    differ e = cc
some_bodies bodies (opener ∷ waiting) e = by_test (suc (length waiting) == length bodies) refl e
  where
    differ : around.Group ≡ around.Body → ⊥
    differ e = cc

    by_test : (same : Bool) → (suc (length waiting) == length bodies) ≡ same → (if same then around.Body else around.Group) ≡ around.Body → 0 < length bodies
    by_test true is e = (let same = eqb-true (suc (length waiting)) (length bodies) is in omega (arith, same))
    by_test false is e = absurd (differ e)

in_body_alone : (arena : Contents) (walk : Walk) (stands : Around) (id count : ℕ) (class : TokenClass) → reading arena walk stands id class ≡ EndsInBody count → stands ≡ around.Body
in_body_alone arena walk around.Body id count class e = refl
in_body_alone arena walk around.Group id count class e = cc
in_body_alone arena walk around.Outside id count class e = by_asked (asked_at arena walk id class) (is_word class) (is_lost class) e
  where
    by_asked : (asked : Option ℕ) (word lost : Bool) → ends_or asked word (if lost then Never else GoesOn (outside walk id class (asked_at arena walk id class))) ≡ EndsInBody count → around.Outside ≡ around.Body
    by_asked None word true e = cc
    by_asked None word false e = cc
    by_asked (Some n) true lost e = cc
    by_asked (Some n) false true e = cc
    by_asked (Some n) false false e = cc

ends_headed : (arena : Contents) (ids : List ℕ) (walk : Walk) (bodies : List Head) (waiting : List Opener) → HasHeads (inside_of (next_end arena walk bodies waiting ids))
ends_headed arena [] walk bodies waiting = tt
ends_headed arena (id ∷ ids) walk bodies waiting =
    let after = waiting_behind (item_class arena id) walk.place waiting in
    by_reads (reading arena walk (around_of bodies waiting) id (item_class arena id)) refl (λ next. ends_headed arena ids (walk_past arena walk bodies waiting id next after) (bodies_past arena walk bodies waiting id after) after)
  where
    by_reads : (read : Reading) → reading arena walk (around_of bodies waiting) id (item_class arena id) ≡ read
        → ((next : Walk)
        → HasHeads (inside_of (next_end arena (walk_past arena walk bodies waiting id next (waiting_behind (item_class arena id) walk.place waiting)) (bodies_past arena walk bodies waiting id (waiting_behind (item_class arena id) walk.place waiting))
        (waiting_behind (item_class arena id) walk.place waiting) ids)))
        → HasHeads (inside_of (by_reading arena walk (around_of bodies waiting) bodies (waiting_behind (item_class arena id) walk.place waiting) id ids read))
    by_reads (EndsOutside count) is on = tt
    by_reads (EndsInBody count) is on =
        let some = some_bodies bodies waiting (in_body_alone arena walk (around_of bodies waiting) id count (item_class arena id) is) in
        subst (λ n. 0 < n) (sym (length-reverse bodies)) some
    by_reads Never is on = tt
    by_reads (GoesOn next) is on = on next

-- where the next part begins in bodies, they have heads
pub inside_headed : (arena : Contents) (begins : Option Place) (ids : List ℕ) → HasHeads (part_inside arena begins ids)
inside_headed arena begins ids = ends_headed arena ids (start begins) (bodies_at begins) (waiting_at begins)

-- what tells the end of a part stands behind it
pub told_fits : (arena : Contents) (begins : Option Place) (told : List ℕ) (ended : Ended) → HasHeads begins → EndsBehind arena begins told ended → (0 < ended.count) × (ended.count < length told)
told_fits arena begins told ended has ends =
    let whole = subst (λ (ids : List ℕ). end_of_part arena begins ids ≡ Some ended) (append-nil told) (ends []) in
    subst (λ (end : Option Ended). IsEnd (length told) end) whole (end_fits arena begins told has)

pub told_within : (arena : Contents) (begins : Option Place) (ids : List ℕ) (n : ℕ) (ended : Ended) → HasHeads begins → n ≤ length ids → EndsBehind arena begins (take n ids) ended → (0 < ended.count) × (ended.count < n)
told_within arena begins ids n ended has low ends =
    let fit = told_fits arena begins (take n ids) ended has ends in
    let few = fit.1 in
    (fit.0, omega (arith, few, length-take-le n ids low))

pub len_fits : (arena : Contents) (begins : Option Place) (ids : List ℕ) → HasHeads begins → 0 < length ids → (0 < part_len arena begins ids) × (part_len arena begins ids ≤ length ids)
len_fits arena begins ids has some = by_end (end_of_part arena begins ids) (end_fits arena begins ids has)
  where
    by_end : (end : Option Ended) → IsEnd (length ids) end → (0 < count_or end (length ids)) × (count_or end (length ids) ≤ length ids)
    by_end None was = (some, omega arith)
    by_end (Some ended) was = (was.0, omega (arith, was.1))

in_order : (n : ℕ) (arena : Contents) (ids : List ℕ) (begins : Option Place) (first : ℕ) → HasHeads begins → first ≤ length ids → length ids - first ≤ n → AreEnds first (length ids) (ends_from n arena ids begins first)
in_order zero arena ids begins first has low enough = omega (arith, low, enough)
in_order (suc n) arena ids begins first has low enough = by_here (nat_lt first (length ids)) refl (λ inside end more after below. in_order n arena ids inside end more below (omega (arith, enough, after)))
  where
    stop : PartStop
    stop = stop_from arena ids begins first

    by_here : (here : Bool) → nat_lt first (length ids) ≡ here → ((inside : Option Place) (end : ℕ) → HasHeads inside → first < end → end ≤ length ids → AreEnds end (length ids) (ends_from n arena ids inside end))
        → AreEnds first (length ids) (if here then stop ∷ ends_from n arena ids stop.inside stop.end else [])
    by_here true is on =
        let inside : first < length ids = ltb-true first (length ids) is in
        let fit = len_fits arena begins (drop first ids) has (omega (arith, inside, length-drop first ids)) in
        let some = fit.0 in
        let few = fit.1 in
        let later : first < stop.end = omega (arith, some) in
        (later, on stop.inside stop.end (inside_headed arena begins (drop first ids)) later (omega (arith, few, inside, length-drop first ids)))
    by_here false is on = (let past = ltb-false first (length ids) is in omega (arith, past, low))

-- the ends of a view's parts cut it whole and in order
pub ends_cut : (arena : Contents) (ids : List ℕ) → AreEnds 0 (length ids) (part_ends arena ids)
ends_cut arena ids = in_order (length ids) arena ids None 0 tt (omega arith) (omega arith)
