-- The gaps of a run that stay as they are: docs/PROFILE.md, "Kept gaps".
use Rattle.std.specs.Prelude.{ℕ, Bool, List, [], ◌∷◌, if◌then◌else◌}
use Rattle.style_table.specs.declared.style.Style.{Style}
use Rattle.token_arena.specs.Gaps.{Contents}
use Rattle.replacements.specs.declared.slot.Slot.{Slot}
pub use Rattle.line_gaps.specs.InputColumns.{column_past, column_through, input_column, kept_slot}
use Rattle.line_gaps.specs.Rows.{column_behind}
use Rattle.item_classes.specs.Items.{item_at}

-- The decisions for the gaps of these items that are marked, where the item before them ends at this column of the
-- input.
abbrev pub kept_decisions : Style → Contents → ℕ → List ℕ → List Bool → List (ℕ × Slot)
kept_decisions style arena column [] marks = []
kept_decisions style arena column (id ∷ ids) [] = []
kept_decisions style arena column (id ∷ ids) (mark ∷ marks) =
    let at = input_column style arena column id in
    let later = kept_decisions style arena (column_behind at (item_at arena id)) ids marks in
    if mark then (id, kept_slot at) ∷ later else later
