-- What is decided before the runs: docs/PROFILE.md, "Gaps that no run decides".
use Rattle.std.specs.Prelude.{◌==◌, ◌&&◌, not, ℕ, ◌+◌, Bool, false, Option, Some, None, List, [], ◌∷◌, ◌++◌, length}
use Rattle.std.specs.Prelude.{replicate, if◌then◌else◌}
use Rattle.style_table.specs.declared.style.Style.{Style}
use Rattle.token_arena.specs.Stored.{Stored}
use Rattle.token_arena.specs.Gaps.{Contents}
use Rattle.replacements.specs.declared.gap_text.Decision.{Decision}
use Rattle.replacements.specs.declared.gap_text.Decision.TheVariants.{Old, Spaces, Lines}
use Rattle.off_regions.specs.Frozen.{frozen_gaps}
use Rattle.off_regions.specs.declared.range.LineRange.{LineRange}
use Rattle.replacements.specs.Breaks.{has_new_line_before}
use Rattle.replacements.specs.Decisions.{decided_all}
use Rattle.replacements.specs.Guards.{guard_of, is_behind_backslash}
use Rattle.replacements.specs.Sound.{item_before}
use Rattle.replacements.specs.declared.slot.Slot.{Slot}
use Rattle.early_gaps.specs.AllLaid.{all_laid}
use Rattle.early_gaps.specs.Kept.{kept_at}
use Rattle.early_gaps.specs.Made.{made_from}

-- ## The last gap

-- the last item's last character is a backslash
abbrev pub ends_in_backslash : Option Stored → Bool
ends_in_backslash None = false
ends_in_backslash (Some token) = is_behind_backslash (guard_of token)

-- a line end where there was one, or where the style wants one behind items; what stood there behind a last backslash;
-- otherwise nothing
abbrev pub last_decision : Style → Contents → Decision
last_decision style arena =
    let place = length arena.tokens in
    if has_new_line_before arena place None then Lines 1 0 0
    else (if ends_in_backslash (item_before arena.tokens place) then Old
    else (if style.insert_newline_at_eof && not (place == 0) then Lines 1 0 0 else Spaces 0))

-- Nothing stands behind the last gap, so no column is asked of it.
abbrev pub last_slot : Style → Contents → Slot
last_slot style arena = record { decision = last_decision style arena; end = 0 }

-- ## All gaps

-- the decisions before the runs, where these lines are asked for: first the gaps that stay, then those of directives,
-- and the last gap
abbrev pub early_decisions : Style → Contents → Option (List LineRange) → List (ℕ × Slot)
early_decisions style arena ranges =
    made_from (kept_at style.tab_width arena (frozen_gaps arena ranges)) 0 (length arena.tokens + 1)
    ++ (all_laid style arena ++ (length arena.tokens, last_slot style arena) ∷ [])

-- the plan before the runs
abbrev pub early_plan : Style → Contents → Option (List LineRange) → List (Option Slot)
early_plan style arena ranges =
    decided_all (replicate (length arena.tokens + 1) None) (early_decisions style arena ranges)
