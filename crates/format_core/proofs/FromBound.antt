-- A run from a bound on, up to behind what is new in it.
use Rattle.std.proofs.Common.{◌∙◌, ℕ, ◌+◌, ◌<◌, ◌≤◌, Option, List, length, drop, get_or, refl, sym, subst, arith}
use Rattle.std.specs.Prelude.{All, IsSome}
use Rattle.std.specs.Option.{ForSome}
use Rattle.std.proofs.lemmas.List.{get_or-drop, get_or_default, length-drop}
use Rattle.style_table.specs.declared.style.Style.{Style}
use Rattle.token_arena.specs.Gaps.{Contents}
use Rattle.token_arena.specs.Ids.{Increase}
use Rattle.branch_runs.specs.Anew.{items_between}
use Rattle.part_walk.specs.Places.{Place}
use Rattle.view_parts.specs.Parts.{StandsBefore, items_before, part_ends, part_inside, part_len}
use Rattle.view_parts.proofs.InBodies.{stands_before}
use Rattle.replacements.specs.declared.slot.Slot.{Slot}
use Rattle.replacements.specs.Decisions.{slot_of}
use Rattle.run_layout.specs.declared.report.Tally.{Tally}
use Rattle.line_gaps.proofs.MadeFor.{is_some-decided, decided-is_some}
use Rattle.run_parts.specs.Bounds.{BeginTold}
use Rattle.format_core.specs.PartByPart.{GoesOnFrom}
use Rattle.format_core.specs.RunsTold.{AreSeenTold}
use Rattle.run_parts.proofs.FirstParts.{parts_of_told, parts_to_end, stop_at}
use Rattle.run_parts.proofs.Parts.{all_decided_of}
use Rattle.format_core.proofs.PartsTold.{from_begin, from_end}
use Rattle.run_parts.proofs.PlacesStand.{next_has, rest_increases, stands_headed, stands_in_rest}
use Rattle.run_parts.proofs.PartsDecided.{AreDecidedUpTo, TellDecided}
use Rattle.format_core.proofs.RowsPassed.{from_outside, from_parts}
use Rattle.format_core.proofs.RunsTold.{all_seen}
use Rattle.run_parts.proofs.BoundsDecided.{AreDecidedFrom, AreDecidedBefore, front_decided}

-- the parts before a bound tell nothing, where all before it is decided
pub from_bound : (style : Style) (budget : ℕ) (arena : Contents) (run : ℕ) (plan : List (Option Slot)) (ids : List ℕ) (tally : Tally) (item told : ℕ) (inside : Option Place) → Increase ids
    → BeginTold arena (items_between 0 told ids) (length (items_between 0 item ids)) inside → AreDecidedBefore plan ids item
    → GoesOnFrom style budget arena run plan ids tally plan inside (length (items_between 0 item ids)) tally
from_bound style budget arena run plan ids tally item told inside increase begin all =
    let place = length (items_between 0 item ids) in
    let parts = parts_of_told arena ids told place inside increase begin in
    from_outside style budget arena run plan ids tally tally plan 0 (stop_at place inside) increase parts (front_decided plan ids item increase all) (from_begin style budget arena run plan ids tally)

-- the parts behind what is new tell nothing
pub behind_new : (style : Style) (budget : ℕ) (arena : Contents) (run : ℕ) (plan : List (Option Slot)) (ids : List ℕ) (before now : Tally) (here : List (Option Slot)) (begins : Option Place) (first new : ℕ) → first ≤ length ids
    → ((k : ℕ) → first ≤ k → k < length ids → new ≤ get_or ids k 0) → AreDecidedFrom plan ids new → All (λ id. IsSome (slot_of here id)) (items_before begins)
    → ForSome begins (λ place. StandsBefore place (get_or ids first 0)) → Increase ids → GoesOnFrom style budget arena run plan ids before here begins first now → AreSeenTold style budget arena run plan ids here before now
behind_new style budget arena run plan ids before now here begins first new inside behind all place stands increase on =
    let parts = parts_to_end arena ids begins first (stands_headed begins (get_or ids first 0) stands) inside in
    let last = from_parts style budget arena run plan ids before now here begins first (stop_at (length ids) parts.0) parts.1.stops Q tell (omega arith, place, stands) some parts.1.follow on in
    all_seen style budget arena run plan ids ids (part_ends arena ids) here before now refl refl (from_end style budget arena run plan ids before now here parts.0 (length ids) (omega arith) last)
  where
    some : AreDecidedUpTo here ids first (length ids)
    some k low high =
        let id = get_or ids k 0 in
        let was = decided-is_some plan id (all id (behind k low high) (k, high, get_or_default ids k id 0 high)) in
        is_some-decided here id (was.0, on.stays id was.0 was.1)

    Q : Option Place → ℕ → Type 0
    Q begins at = (first ≤ at) × All (λ id. IsSome (slot_of here id)) (items_before begins) × ForSome begins (λ place. StandsBefore place (get_or ids at 0))

    rest : (at : ℕ) → first ≤ at → All (λ id. IsSome (slot_of here id)) (drop at ids)
    rest at low = λ k d below.
        let far : at + k < length ids = omega (arith, below, length-drop at ids) in
        subst (λ id. IsSome (slot_of here id)) (get_or_default ids (at + k) 0 d far ∙ sym (get_or-drop at ids k d)) (some (at + k) (omega (arith, low)) far)

    tell : TellDecided arena here ids (length ids) Q
    tell = record {
      tells = λ begins at upto q. all_decided_of here (items_before begins) q.1;
      next = λ begins at q.
          let later = stands_before arena begins (drop at ids) 0 (rest_increases 0 at ids increase) (stands_in_rest ids begins at q.2) in (
            omega (arith, q.0),
            next_has (λ id. IsSome (slot_of here id)) arena ids begins (part_inside arena begins (drop at ids)) at increase q.2 q.1 (rest at q.0) refl,
            λ place is. subst (λ id. StandsBefore place id) (get_or-drop at ids (part_len arena begins (drop at ids)) 0) (later place is),
          );
    }
