-- The gaps of parts that are noted in a row are decided behind items that were laid out.
use Rattle.std.proofs.Common.{◌≡◌, ◌∙◌, inl, inr, ℕ, ◌+◌, ◌<◌, ◌≤◌, Option, List, length, length-append, drop}
use Rattle.std.proofs.Common.{get_or, sym, subst, arith}
use Rattle.std.specs.Prelude.{All, IsSome, slice_range}
use Rattle.std.specs.Option.{ForSome}
use Rattle.std.proofs.lemmas.List.{get_or-drop, get_or_append_left, get_or_default, length-drop}
use Rattle.style_table.specs.declared.style.Style.{Style}
use Rattle.token_arena.specs.Gaps.{Contents}
use Rattle.token_arena.specs.Ids.{Increase}
use Rattle.item_classes.specs.Viewed.{AreWithin}
use Rattle.replacements.specs.declared.slot.Slot.{Slot}
use Rattle.replacements.specs.Decisions.{slot_of}
use Rattle.run_layout.specs.declared.report.Tally.{Tally}
use Rattle.line_gaps.proofs.MadeFor.{is_some-decided, decided-is_some}
use Rattle.view_parts.specs.declared.known.KnownEnd.{KnownEnd}
use Rattle.part_walk.specs.Places.{Place}
use Rattle.view_parts.specs.Parts.{StandsBefore, items_before, laid_items, part_inside}
use Rattle.view_parts.specs.Known.{AreRowsFrom}
use Rattle.run_parts.specs.Runs.{AreDecided, AreRowsDecided}
use Rattle.format_core.specs.RunsTold.{AreItemsTold}
use Rattle.run_parts.proofs.JoinedRows.{own_decided, row_of_part}
use Rattle.run_parts.proofs.Parts.{laid_have, part_length, part_item, before_or_behind}
use Rattle.run_parts.proofs.Between.{in_order}
use Rattle.run_parts.proofs.PlacesStand.{all_before, next_has}
use Rattle.format_core.proofs.SoundPlan.{items_keep, items_decided}

-- ## What is laid out

-- a gap that was decided is decided behind items that were laid out
told_keep : (style : Style) (budget : ℕ) (arena : Contents) (run : ℕ) (plan : List (Option Slot)) (ids : List ℕ) (final : List (Option Slot)) (before after : Tally) (place : ℕ) → AreItemsTold style budget arena run plan ids final before after
    → IsSome (slot_of plan place) → IsSome (slot_of final place)
told_keep style budget arena run plan ids final before after place laid some =
    let was = decided-is_some plan place some in
    is_some-decided final place (was.0, items_keep style budget arena run plan ids final laid.done place was.0 laid.items was.1)

-- and so is each of theirs
pub told_decided : (style : Style) (budget : ℕ) (arena : Contents) (run : ℕ) (plan : List (Option Slot)) (ids : List ℕ) (final : List (Option Slot)) (before after : Tally) → length plan ≡ length arena.tokens + 1 → AreWithin arena ids
    → AreItemsTold style budget arena run plan ids final before after → AreDecided final ids
told_decided style budget arena run plan ids final before after long within laid = λ k below.
    is_some-decided final (get_or ids k 0) (items_decided style budget arena run plan ids final laid.done k long within below laid.items)

-- ## What is noted

-- behind a part that was laid out its row is decided too, if it was noted
pub rows_behind : (style : Style) (budget : ℕ) (arena : Contents) (run : ℕ) (plan final : List (Option Slot)) (view : List ℕ) (begins : Option Place) (first end : ℕ) (earlier knowns : List KnownEnd) (before after : Tally)
    → length plan ≡ length arena.tokens + 1 → AreWithin arena view → AreWithin arena (items_before begins) → end ≤ length view → AreRowsFrom earlier view first end knowns
    → AreItemsTold style budget arena run plan (laid_items begins view first end) final before after → AreRowsDecided plan earlier → AreRowsDecided final knowns
rows_behind style budget arena run plan final view begins first end earlier knowns before after long within place inside from laid all id row is =
    let ids = laid_items begins view first end in
    elim (from id row is) [
      | inl was ↦ λ gap low high. told_keep style budget arena run plan ids final before after gap laid (all id row was gap low high)
      | inr has ↦ row_of_part final view first end id row inside has
          (own_decided final view begins first end (told_decided style budget arena run plan ids final before after long (laid_have (λ id. id < length arena.tokens) view begins first end place within) laid))
    ]

-- ## What stands for the place behind a part

-- it is decided behind a part that was laid out
pub place_decided : (style : Style) (budget : ℕ) (arena : Contents) (run : ℕ) (plan final : List (Option Slot)) (view : List ℕ) (begins inside : Option Place) (first end : ℕ) (before after : Tally)
    → length plan ≡ length arena.tokens + 1 → Increase view → AreWithin arena view → AreWithin arena (items_before begins) → ForSome begins (λ place. StandsBefore place (get_or view first 0)) → end ≤ length view → inside ≡ part_inside arena begins (drop first view)
    → ForSome inside (λ place. StandsBefore place (get_or view end 0)) → AreItemsTold style budget arena run plan (laid_items begins view first end) final before after → All (λ id. IsSome (slot_of final id)) (items_before inside)
place_decided style budget arena run plan final view begins inside first end before after long increase within place begun fits is stands laid = λ k d below.
    have k d below (all_before inside (get_or view end 0) stands k d below)
  where
    P : ℕ → Type 0
    P id = id < get_or view end 0 → IsSome (slot_of final id)

    ids : List ℕ
    ids = laid_items begins view first end

    some : AreDecided final ids
    some = told_decided style budget arena run plan ids final before after long (laid_have (λ id. id < length arena.tokens) view begins first end place within) laid

    own : AreDecided final (slice_range view first end)
    own = own_decided final view begins first end some

    here : All P (items_before begins)
    here = λ k d below early.
        subst (λ id. IsSome (slot_of final id)) (get_or_append_left (items_before begins) (slice_range view first end) 0 k below ∙ get_or_default (items_before begins) k 0 d below)
        (some k (omega (arith, below, length-append (items_before begins) (slice_range view first end))))

    rest : All P (drop first view)
    rest = λ k d below early.
        let far : first + k < length view = omega (arith, below, length-drop first view) in
        let at : get_or (drop first view) k d ≡ get_or view (first + k) 0 = get_or-drop first view k d ∙ get_or_default view (first + k) d 0 far in
        elim (before_or_behind (first + k) end) [
          | inl inside ↦
              let short : k < length (slice_range view first end) = omega (arith, inside, far, part_length view first end) in
              subst (λ id. IsSome (slot_of final id)) (part_item view first end k 0 short ∙ sym at) (own k short)
          | inr late ↦
              let order = in_order 0 view end (first + k) increase late far in
              absurd (omega (arith, order, at, early))
        ]

    have : All P (items_before inside)
    have = next_has P arena view begins inside first increase begun here rest is
