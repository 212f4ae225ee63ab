-- The columns of trailing comments: docs/PROFILE.md, "Trailing comments".
use Rattle.std.specs.Prelude.{◌≡◌, ◌≤◌, max, ℕ, ⊤, Option, Some, None, List, [], ◌∷◌, if◌then◌else◌}
use Rattle.style_table.specs.declared.style.AlignTrailingCommentsKind.{AlignTrailingCommentsKind}
use Rattle.style_table.specs.declared.style.AlignTrailingCommentsKind.TheVariants.{Always, Never}
use Rattle.comment_rows.specs.declared.place.TrailRow.{TrailRow}

-- the largest column of the comments of these rows, up to the first that the next one doesn't directly follow
abbrev pub largest_column : List TrailRow → ℕ
largest_column [] = 0
largest_column (row ∷ rows) = if row.next then max row.column (largest_column rows) else row.column

-- the column of these rows: that of the row before them where it goes on with them, and else the largest of their own
abbrev pub shared_column : Option ℕ → List TrailRow → ℕ
shared_column None rows = largest_column rows
shared_column (Some column) rows = column

-- the row with its comment at a column, unless that is decided
abbrev pub moved_to : ℕ → TrailRow → TrailRow
moved_to column row =
    if row.fixed then row else record { end = row.end; column = column; next = row.next; fixed = row.fixed }

-- the rows with the comments of those that directly follow one another at the largest of their columns, where the row
-- before goes on with them at a column, or none does
abbrev pub lined_up : Option ℕ → List TrailRow → List TrailRow
lined_up before [] = []
lined_up before (row ∷ rows) =
    let column = shared_column before (row ∷ rows) in
    moved_to column row ∷ lined_up (if row.next then Some column else None) rows

-- the rows in a style
abbrev pub aligned : AlignTrailingCommentsKind → List TrailRow → List TrailRow
aligned Always rows = lined_up None rows
aligned Never rows = rows

-- No comment moves to the left, and each row has the code that it had.
abbrev pub StandRight : List TrailRow → List TrailRow → Type 0
StandRight [] [] = ⊤
StandRight (old ∷ olds) (new ∷ news) = (old.column ≤ new.column) × (new.end ≡ old.end) × StandRight olds news
StandRight _ _ = ⊥
