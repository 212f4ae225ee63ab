-- Parts that follow one another and whose gaps are decided, passed at once.
use Rattle.std.proofs.Common.{ℕ, ◌≤◌, Option, None, List, [], ◌∷◌, length, sym, subst, arith}
use Rattle.std.specs.Prelude.{slice_range}
use Rattle.style_table.specs.declared.style.Style.{Style}
use Rattle.token_arena.specs.Gaps.{Contents}
use Rattle.token_arena.specs.Ids.{Increase}
use Rattle.part_walk.specs.Places.{Place}
use Rattle.view_parts.specs.Parts.{PartStop, FollowUpTo, ArePartsUpTo, items_before, laid_items}
use Rattle.replacements.specs.declared.slot.Slot.{Slot}
use Rattle.run_layout.specs.declared.report.Tally.{Tally}
use Rattle.run_parts.specs.Runs.{AreDecided}
use Rattle.run_parts.proofs.Parts.{all_decided_of, laid_decided}
use Rattle.format_core.specs.PartByPart.{GoesOnFrom}
use Rattle.format_core.proofs.PartsTold.{from_part}
use Rattle.run_parts.proofs.PlacesStand.{IsPlaced, placed_decided, placed_next, placed_outside}
use Rattle.format_core.proofs.RunsTold.{items_told_nothing}
use Rattle.run_parts.proofs.FirstParts.{follow_order}
use Rattle.run_parts.proofs.PartsDecided.{AreDecidedUpTo, decided_up_to, part_decided_in, TellDecided}

pub from_parts : (style : Style) (budget : ℕ) (arena : Contents) (run : ℕ) (plan : List (Option Slot)) (ids : List ℕ) (before now : Tally) (here : List (Option Slot)) (begins : Option Place) (first : ℕ) (last : PartStop) (stops : List PartStop)
    (Q : Option Place → ℕ → Type 0) → TellDecided arena here ids last.end Q → Q begins first → AreDecidedUpTo here ids first last.end → FollowUpTo arena ids begins first last stops
    → GoesOnFrom style budget arena run plan ids before here begins first now → GoesOnFrom style budget arena run plan ids before here last.inside last.end now
from_parts style budget arena run plan ids before now here begins first last [] Q tell at some follow from =
    subst (λ (s : PartStop). GoesOnFrom style budget arena run plan ids before here s.inside s.end now) follow from
from_parts style budget arena run plan ids before now here begins first last (stop ∷ stops) Q tell at some follow from =
    let upto = follow_order arena ids stop.inside stop.end last stops follow.3 in
    let own = part_decided_in here ids first stop.end last.end upto some in
    let place = tell.tells begins first (omega (arith, upto, follow.1)) at in
    let nothing = items_told_nothing style budget arena run here (laid_items begins ids first stop.end) now (laid_decided here ids begins first stop.end place own) in
    let next = from_part style budget arena run plan ids before now now here here begins first stop follow.0 follow.1 follow.2 from nothing in
    let then : Q stop.inside stop.end = subst (λ (s : PartStop). Q s.inside s.end) (sym follow.2) (tell.next begins first at) in
    from_parts style budget arena run plan ids before now here stop.inside stop.end last stops Q tell then (λ k low high. some k (omega (arith, low, follow.1)) high) follow.3 next

-- behind parts whose gaps are decided, the first of which begins outside brackets, the plan is the same, and nothing more is told
pub from_outside : (style : Style) (budget : ℕ) (arena : Contents) (run : ℕ) (plan : List (Option Slot)) (ids : List ℕ) (before now : Tally) (here : List (Option Slot)) (first : ℕ) (last : PartStop) → Increase ids
    → ArePartsUpTo arena ids None first last → AreDecidedUpTo here ids first last.end → GoesOnFrom style budget arena run plan ids before here None first now
    → GoesOnFrom style budget arena run plan ids before here last.inside last.end now
from_outside style budget arena run plan ids before now here first last increase parts some from =
    from_parts style budget arena run plan ids before now here None first last parts.stops (λ begins at. IsPlaced ids first begins at) tell (placed_outside ids first) some parts.follow from
  where
    tell : TellDecided arena here ids last.end (λ begins at. IsPlaced ids first begins at)
    tell = record {
      tells = λ begins at upto placed. all_decided_of here (items_before begins) (placed_decided here ids first begins at increase placed (λ k low high. some k low (omega (arith, high, upto))));
      next = λ begins at placed. placed_next arena ids first begins at increase placed;
    }

pub from_row : (style : Style) (budget : ℕ) (arena : Contents) (run : ℕ) (plan : List (Option Slot)) (ids : List ℕ) (before now : Tally) (here : List (Option Slot)) (first : ℕ) (last : PartStop) → Increase ids → last.end ≤ length ids
    → ArePartsUpTo arena ids None first last → AreDecided here (slice_range ids first last.end) → GoesOnFrom style budget arena run plan ids before here None first now
    → GoesOnFrom style budget arena run plan ids before here last.inside last.end now
from_row style budget arena run plan ids before now here first last increase inside parts some from =
    from_outside style budget arena run plan ids before now here first last increase parts (decided_up_to here ids first last.end inside some) from
