-- Where the items of a whole text stand in the input.
use Rattle.std.specs.Prelude.{ℕ, zero, suc}
use Rattle.token_arena.specs.Gaps.{Contents, gap_of}
use Rattle.line_gaps.specs.InputColumns.{column_through}
use Rattle.line_gaps.specs.Rows.{column_behind}
use Rattle.item_classes.specs.Items.{item_at}

-- The column at which what stands behind the gap at a place begins in the input: an item there, or the end behind the
-- last gap. Items are passed by the widths of their rows, and gaps byte by byte.
abbrev pub column_at : ℕ → Contents → ℕ → ℕ
column_at tab arena zero = column_through tab 0 (gap_of arena 0)
column_at tab arena (suc id) =
    column_through tab (column_behind (column_at tab arena id) (item_at arena id)) (gap_of arena (suc id))
