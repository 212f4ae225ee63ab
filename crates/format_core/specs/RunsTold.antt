-- Runs that were laid out, with what is told of their lines.
use Rattle.std.specs.Prelude.{◌≡◌, ℕ, List, Option}
use Rattle.style_table.specs.declared.style.Style.{Style}
use Rattle.token_arena.specs.Gaps.{Contents}
use Rattle.part_walk.specs.Places.{Place}
use Rattle.view_parts.specs.Parts.{PartStop}
use Rattle.off_regions.specs.declared.range.LineRange.{LineRange}
use Rattle.replacements.specs.declared.slot.Slot.{Slot}
use Rattle.run_layout.specs.Outcomes.{LaidLine}
use Rattle.run_layout.specs.RunsLaid.{IsToldOf}
use Rattle.run_layout.specs.declared.report.Tally.{Tally}
use Rattle.run_layout.specs.Reports.{reports_of, searched_of, cost_of}
use Rattle.format_core.specs.Plans.{AfterItems, AfterParts, AfterSeen, AfterRuns, IsPlanOf}
use Rattle.run_parts.specs.Runs.{runs_of}
use Rattle.format_core.specs.declared.runs.Planned.{Planned}

-- behind a part of these items stands this plan, and its lines are told so
pub record AreItemsTold (style : Style) (budget : ℕ) (arena : Contents) (run : ℕ) (plan : List (Option Slot))
    (ids : List ℕ) (final : List (Option Slot)) (before after : Tally) : Type 0 where
  pub done : List LaidLine
  pub items : AfterItems style budget arena run plan ids final done
  pub told : IsToldOf done before after

-- the same behind the parts of a view that end so, the first of which begins at this place
pub record ArePartsTold (style : Style) (budget : ℕ) (arena : Contents) (run : ℕ) (plan : List (Option Slot))
    (ids : List ℕ) (begins : Option Place) (first : ℕ) (ends : List PartStop) (final : List (Option Slot))
    (before after : Tally) : Type 0 where
  pub done : List LaidLine
  pub parts : AfterParts style budget arena run plan ids begins first ends final done
  pub told : IsToldOf done before after

-- the same behind the run that sees these items
pub record AreSeenTold (style : Style) (budget : ℕ) (arena : Contents) (run : ℕ) (plan : List (Option Slot))
    (ids : List ℕ) (final : List (Option Slot)) (before after : Tally) : Type 0 where
  pub done : List LaidLine
  pub seen : AfterSeen style budget arena run plan ids final done
  pub told : IsToldOf done before after

-- the same behind so many runs from this one on
pub record AreRunsTold (style : Style) (budget : ℕ) (arena : Contents) (plan : List (Option Slot)) (run count : ℕ)
    (final : List (Option Slot)) (before after : Tally) : Type 0 where
  pub done : List LaidLine
  pub runs : AfterRuns style budget arena plan run count final done
  pub told : IsToldOf done before after

-- this is the plan of a text, with all that is told of its lines
pub record IsPlanned (style : Style) (ranges : Option (List LineRange)) (budget : ℕ) (arena : Contents)
    (made : Planned) : Type 0 where
  pub done : List LaidLine
  pub planned : IsPlanOf style ranges budget arena made.plan done
  pub runs : made.runs ≡ runs_of arena
  pub reports : made.tally.reports.items ≡ reports_of done
  pub searched : made.tally.searched ≡ searched_of done
  pub cost : made.tally.cost ≡ cost_of done
