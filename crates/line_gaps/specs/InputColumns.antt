-- Where items stand in the input.
use Rattle.std.specs.Prelude.{◌==◌, min, ℕ, zero, suc, ◌+◌, ◌-◌, ◌%◌, List, [], ◌∷◌, get_or, if◌then◌else◌}
use Rattle.style_table.specs.declared.style.Style.{Style}
use Rattle.token_arena.specs.Gaps.{Contents, gap_of}
use Rattle.line_tokens.specs.declared.line.ULine.{ULine}
use Rattle.layout_tables.specs.Indents.{most_column}
use Rattle.replacements.specs.declared.gap_text.Decision.TheVariants.{Old}
use Rattle.replacements.specs.declared.slot.Slot.{Slot}
use Rattle.line_gaps.specs.Rows.{column_behind}
use Rattle.item_classes.specs.Items.{item_at}

-- the column behind a byte of white space that stands at a column: a row begins behind a line end, a tab goes to the
-- next multiple of its width
abbrev pub column_past : ℕ → ℕ → ℕ → ℕ
column_past tab column byte =
    if byte == 10 then 0
    else (if byte == 9 then min (column + (tab - column % tab)) most_column else min (column + 1) most_column)

-- the column behind the bytes of a gap that begins at a column
abbrev pub column_through : ℕ → ℕ → List ℕ → ℕ
column_through tab column [] = column
column_through tab column (byte ∷ gap) = column_through tab (column_past tab column byte) gap

-- the column at which the item with this number stands in the input, where the one before it in the view ends at this
-- column
abbrev pub input_column : Style → Contents → ℕ → ℕ → ℕ
input_column style arena column id = column_through style.tab_width column (gap_of arena id)

-- the column of the input behind an item, where the one before it in the view ends at this column
abbrev pub input_behind : Style → Contents → ℕ → ℕ → ℕ
input_behind style arena column id = column_behind (input_column style arena column id) (item_at arena id)

-- the column of the input behind so many items of a view
abbrev pub input_before : Style → Contents → List ℕ → ℕ → ℕ
input_before style arena ids zero = 0
input_before style arena ids (suc k) = input_behind style arena (input_before style arena ids k) (get_or ids k 0)

-- the bytes of the gap before an item stay, and the item at its column
abbrev pub kept_slot : ℕ → Slot
kept_slot column = record { decision = Old; end = column }

-- the bytes stay before so many items of a view from this place on, where the item before ends at this column of the
-- input
abbrev pub old_from : Style → Contents → List ℕ → ℕ → ℕ → ℕ → List (ℕ × Slot)
old_from style arena ids column k zero = []
old_from style arena ids column k (suc count) =
    let id = get_or ids k 0 in
    (id, kept_slot (input_column style arena column id))
    ∷ old_from style arena ids (input_behind style arena column id) (k + 1) count

-- the decisions for the gaps inside a line that is reported: each keeps its bytes
abbrev pub reported_made : Style → Contents → List ℕ → ULine → List (ℕ × Slot)
reported_made style arena ids line =
    let first = get_or ids line.first 0 in
    old_from style arena ids (input_behind style arena (input_before style arena ids line.first) first)
    (line.first + 1) (line.last - line.first)
