-- Runs, part by part.
use Rattle.std.specs.Prelude.{◌≡◌, ◌≤◌, ◌+◌, ◌-◌, ℕ, List, ◌++◌, Option, None, Some, length}
use Rattle.style_table.specs.declared.style.Style.{Style}
use Rattle.token_arena.specs.Gaps.{Contents}
use Rattle.part_walk.specs.Places.{Place}
use Rattle.view_parts.specs.Parts.{PartStop, ends_from, part_ends}
use Rattle.replacements.specs.Decisions.{slot_of}
use Rattle.replacements.specs.declared.slot.Slot.{Slot}
use Rattle.run_layout.specs.Outcomes.{LaidLine}
use Rattle.run_layout.specs.Reports.{reports_of, searched_of, cost_of}
use Rattle.run_layout.specs.declared.report.Tally.{Tally}
use Rattle.format_core.specs.Plans.{AfterParts}

-- all parts of a view
pub record AllParts (style : Style) (budget : ℕ) (arena : Contents) (run : ℕ) (plan : List (Option Slot))
    (ids : List ℕ) (ends : List PartStop) (before now : Tally) (final : List (Option Slot)) (done : List LaidLine) :
    Type 0 where
  pub whole : List LaidLine
  pub parts_are : AfterParts style budget arena run plan ids None 0 ends final whole
  pub reports : before.reports.items ++ reports_of whole ≡ now.reports.items ++ reports_of done
  pub searched : before.searched + searched_of whole ≡ now.searched + searched_of done
  pub cost : before.cost + cost_of whole ≡ now.cost + cost_of done

-- what goes on from here goes on from the first part
abbrev pub GoesOnParts : Style → ℕ → Contents → ℕ → List (Option Slot) → List ℕ → List PartStop → Tally →
    List (Option Slot) → Option Place → ℕ → List PartStop → Tally → Type 0
GoesOnParts style budget arena run plan ids ends before here begins first left now =
    (final : List (Option Slot)) (done : List LaidLine) →
    AfterParts style budget arena run here ids begins first left final done →
    AllParts style budget arena run plan ids ends before now final done

-- what goes on from the part that begins at this place, outside brackets or at this place of a body, goes on from the
-- first part
pub record GoesOnFrom (style : Style) (budget : ℕ) (arena : Contents) (run : ℕ) (plan : List (Option Slot))
    (ids : List ℕ) (before : Tally) (here : List (Option Slot)) (begins : Option Place) (first : ℕ) (now : Tally) :
    Type 0 where
  pub fuel : ℕ
  pub enough : length ids - first ≤ fuel
  pub stays : (place : ℕ) (slot : Slot) → slot_of plan place ≡ Some slot → slot_of here place ≡ Some slot
  pub on : GoesOnParts style budget arena run plan ids (part_ends arena ids) before here begins first
      (ends_from fuel arena ids begins first) now
