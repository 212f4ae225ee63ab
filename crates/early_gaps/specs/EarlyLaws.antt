-- What holds of the gaps that no run decides, whatever the runs do.
use Rattle.std.specs.Prelude.{◌≡◌, ◌≤◌, ◌<◌, ◌⊎◌, ℕ, true, false, Option, Some, IsSome, List, length}
use Rattle.style_table.specs.declared.style.Style.{Style}
use Rattle.token_arena.specs.Gaps.{Contents}
use Rattle.token_arena.specs.Holds.{HoldsItems}
use Rattle.token_arena.specs.Sections.{sections_of}
use Rattle.branch_runs.specs.Dead.{is_dead}
use Rattle.branch_runs.specs.Marks.{marks_of}
use Rattle.off_regions.specs.Frozen.{frozen_gaps}
use Rattle.off_regions.specs.declared.range.LineRange.{LineRange}
use Rattle.replacements.specs.Decisions.{slot_of}
use Rattle.replacements.specs.Sound.{IsSound}
use Rattle.replacements.specs.Stances.{stance_in}
use Rattle.replacements.specs.declared.stance.Stance.TheVariants.{OfText}
use Rattle.line_gaps.specs.InputColumns.{kept_slot}
use Rattle.early_gaps.specs.BeforeRuns.{early_plan}
use Rattle.early_gaps.specs.Columns.{column_at}
use Rattle.early_gaps.specs.Kept.{is_kept}

-- The plan before the runs decides only what may stand.
abbrev pub EarlyPlansAreSound : Type 0
EarlyPlansAreSound =
    (style : Style) (arena : Contents) (ranges : Option (List LineRange)) → HoldsItems arena →
    IsSound arena (early_plan style arena ranges)

-- A gap that stays has its bytes there, and what stands behind it its column of the input.
abbrev pub EarlyPlansKeep : Type 0
EarlyPlansKeep =
    (style : Style) (arena : Contents) (ranges : Option (List LineRange)) (place : ℕ) → place ≤ length arena.tokens →
    is_kept arena (frozen_gaps arena ranges) place ≡ true
    → slot_of (early_plan style arena ranges) place ≡ Some (kept_slot (column_at style.tab_width arena place))

-- the item at a place is there, of a text and not dead
abbrev pub IsLeft : Contents → ℕ → Type 0
IsLeft arena place =
    (place < length arena.tokens) × (stance_in (sections_of arena) place ≡ OfText)
    × (is_dead (marks_of arena) place ≡ false)

-- Each gap is decided that isn't before a live item of a text, which some run sees.
abbrev pub EarlyOrLeft : Type 0
EarlyOrLeft =
    (style : Style) (arena : Contents) (ranges : Option (List LineRange)) (place : ℕ) → place ≤ length arena.tokens
    → IsSome (slot_of (early_plan style arena ranges) place) ⊎ IsLeft arena place
