-- What holds of the plans of a text, whichever lines are reported.
use Rattle.std.specs.Prelude.{◌≡◌, ◌≤◌, ℕ, Bool, true, List, Option, Some, IsSome, length}
use Rattle.c_grammar.specs.Twin.{IsTwin}
use Rattle.style_table.specs.declared.style.Style.{Style}
use Rattle.token_arena.specs.Gaps.{Contents}
use Rattle.token_arena.specs.Holds.{HoldsItems}
use Rattle.token_arena.specs.Sections.{sections_of}
use Rattle.off_regions.specs.declared.range.LineRange.{LineRange}
use Rattle.replacements.specs.Decisions.{slot_of}
use Rattle.replacements.specs.Written.{written}
use Rattle.early_gaps.specs.BeforeRuns.{early_plan}
use Rattle.early_gaps.specs.Columns.{column_at}
use Rattle.early_gaps.specs.Kept.{is_kept}
use Rattle.off_regions.specs.Frozen.{frozen_gaps}
use Rattle.line_gaps.specs.InputColumns.{kept_slot}
use Rattle.replacements.specs.declared.slot.Slot.{Slot}
use Rattle.run_layout.specs.Outcomes.{LaidLine}
use Rattle.format_core.specs.Plans.{IsPlanOf}

-- The text of a plan is a twin of the text, in every style and with either line end, whichever lines are reported.
abbrev pub PlannedTextsAreTwins : Type 0
PlannedTextsAreTwins =
    (style : Style) (ranges : Option (List LineRange)) (budget : ℕ) (crlf : Bool) (arena : Contents)
    (plan : List (Option Slot)) (done : List LaidLine)
    → HoldsItems arena → IsPlanOf style ranges budget arena plan done →
    IsTwin arena.dialect arena.text (written style crlf arena (sections_of arena) plan)

-- No run changes what is decided before the runs.
abbrev pub EarlyDecisionsStay : Type 0
EarlyDecisionsStay =
    (style : Style) (ranges : Option (List LineRange)) (budget : ℕ) (arena : Contents) (plan : List (Option Slot))
    (done : List LaidLine) (place : ℕ) (slot : Slot)
    → IsPlanOf style ranges budget arena plan done → slot_of (early_plan style arena ranges) place ≡ Some slot →
    slot_of plan place ≡ Some slot

-- So a gap that stays has its bytes in each plan, and what stands behind it its column of the input.
abbrev pub KeptGapsStay : Type 0
KeptGapsStay =
    (style : Style) (ranges : Option (List LineRange)) (budget : ℕ) (arena : Contents) (plan : List (Option Slot))
    (done : List LaidLine) (place : ℕ)
    → IsPlanOf style ranges budget arena plan done → place ≤ length arena.tokens →
    is_kept arena (frozen_gaps arena ranges) place ≡ true
    → slot_of plan place ≡ Some (kept_slot (column_at style.tab_width arena place))

-- Each gap of a text is decided in each of its plans: before the runs, or by the first run that sees it.
-- docs/PROFILE.md, "Runs".
abbrev pub EveryGapIsDecided : Type 0
EveryGapIsDecided =
    (style : Style) (ranges : Option (List LineRange)) (budget : ℕ) (arena : Contents) (plan : List (Option Slot))
    (done : List LaidLine) (place : ℕ)
    → IsPlanOf style ranges budget arena plan done → place ≤ length arena.tokens → IsSome (slot_of plan place)
