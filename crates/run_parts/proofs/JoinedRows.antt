-- Parts that are noted in a row, and whose gaps are decided.
use Rattle.std.proofs.Common.{◌≡◌, ◌∙◌, inl, inr, ℕ, ◌+◌, ◌-◌, ◌<◌, ◌≤◌, Option, List, length, sym, subst, arith}
use Rattle.std.specs.Prelude.{IsSome, slice_range}
use Rattle.replacements.specs.declared.slot.Slot.{Slot}
use Rattle.replacements.specs.Decisions.{slot_of}
use Rattle.line_gaps.specs.OpenGaps.{IsRowDecided}
use Rattle.view_parts.specs.declared.known.KnownEnd.{KnownEnd}
use Rattle.part_walk.specs.Places.{Place}
use Rattle.view_parts.specs.Parts.{items_before, laid_items}
use Rattle.view_parts.specs.declared.known.KnownRow.{KnownRow}
use Rattle.view_parts.specs.Known.{HasNotedRow, HasRow, after_joined}
use Rattle.view_parts.proofs.NotedRows.{joined_hold}
use Rattle.run_parts.specs.Runs.{AreDecided, AreRowsDecided}
use Rattle.run_parts.proofs.Parts.{laid_item, laid_length, part_length, part_item, before_or_behind}

-- ## What is laid out

-- where its gaps are decided, so are those of the part itself
pub own_decided : (plan : List (Option Slot)) (ids : List ℕ) (begins : Option Place) (first end : ℕ) → AreDecided plan (laid_items begins ids first end) → AreDecided plan (slice_range ids first end)
own_decided plan ids begins first end all = λ k below.
    subst (λ id. IsSome (slot_of plan id)) (laid_item ids begins first end k 0 below ∙ sym (part_item ids first end k 0 below))
    (all (length (items_before begins) + k) (omega (arith, below, laid_length ids begins first end, part_length ids first end)))

-- ## Rows of a view

pub row_of_part : (plan : List (Option Slot)) (view : List ℕ) (first end id : ℕ) (row : KnownRow) → end ≤ length view → HasRow view first end id row → AreDecided plan (slice_range view first end) → IsRowDecided plan id row.end
row_of_part plan view first end id row inside has all = λ gap low high.
    let k = gap - id in
    let short : k < row.end - id = omega (arith, low, high) in
    let below : k < length (slice_range view first end) = omega (arith, short, has.ends, inside, part_length view first end) in
    let at : id + k ≡ gap = omega (arith, low) in
    subst (λ g. IsSome (slot_of plan g)) (part_item view first end k 0 below ∙ (has.items k short ∙ at)) (all k below)

part_of_row : (plan : List (Option Slot)) (view : List ℕ) (first end id : ℕ) (row : KnownRow) → HasRow view first end id row → IsRowDecided plan id row.end → AreDecided plan (slice_range view first end)
part_of_row plan view first end id row has all = λ k below.
    let short : k < row.end - id = omega (arith, below, has.ends, part_length view first end) in
    subst (λ g. IsSome (slot_of plan g)) (sym (part_item view first end k 0 below ∙ has.items k short)) (all (id + k) (omega arith) (omega (arith, short, has.some)))

-- parts that a view has in a noted row are decided
pub noted_decided : (plan : List (Option Slot)) (knowns : List KnownEnd) (view : List ℕ) (first end id : ℕ) → HasNotedRow knowns view first end id → AreRowsDecided plan knowns → AreDecided plan (slice_range view first end)
noted_decided plan knowns view first end id noted all = part_of_row plan view first end id noted.row noted.has (all id noted.row noted.noted)

-- ## Rows that are joined

both_decided : (plan : List (Option Slot)) (a b c : ℕ) → IsRowDecided plan a b → IsRowDecided plan b c → IsRowDecided plan a c
both_decided plan a b c here later = λ gap low high.
    elim (before_or_behind gap b) [
      | inl before ↦ here gap low before
      | inr behind ↦ later gap behind high
    ]

-- rows that are decided are so when two are joined
pub joined_decided : (plan : List (Option Slot)) (knowns : List KnownEnd) (first next : ℕ) → AreRowsDecided plan knowns → AreRowsDecided plan (after_joined knowns first next)
joined_decided plan knowns first next all = joined_hold (λ a b. IsRowDecided plan a b) knowns first next (both_decided plan) all
