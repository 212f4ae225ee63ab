-- Rows whose comments are lined up.
use Rattle.std.proofs.Common.{◌≡◌, ◌≤◌, ◌<◌, ℕ, ◌+◌, true, false, Option, Some, None, List, [], ◌∷◌, ◌++◌, length, take, drop, set, arith, refl, append_assoc}
use Rattle.std.specs.Prelude.{if◌then◌else◌}
use Rattle.std.proofs.lemmas.List.{take_more_set, drop-set-lt}
use Rattle.std.proofs.lemmas.Grind.{common_steps}
use Rattle.style_table.specs.declared.style.AlignTrailingCommentsKind.{AlignTrailingCommentsKind}
use Rattle.style_table.specs.declared.style.AlignTrailingCommentsKind.TheVariants.{Always, Never}
use Rattle.comment_rows.specs.Columns.{aligned, largest_column, lined_up, moved_to, shared_column, StandRight}
use Rattle.comment_rows.specs.declared.place.TrailRow.{TrailRow}

-- one more row is lined up
pub lined_next : (rows : List TrailRow) (i : ℕ) (before : Option ℕ) (row : TrailRow) → i < length rows → drop i rows ≡ row ∷ drop (i + 1) rows
    → take (i + 1) (set rows i (moved_to (shared_column before (drop i rows)) row))
    ++ lined_up (if row.next then Some (shared_column before (drop i rows)) else None) (drop (i + 1) (set rows i (moved_to (shared_column before (drop i rows)) row)))
    ≡ take i rows ++ lined_up before (drop i rows)
lined_next rows i before row within here =
    rw (
      take_more_set rows i (moved_to (shared_column before (drop i rows)) row) within,
      drop-set-lt (i + 1) rows i (moved_to (shared_column before (drop i rows)) row) (omega arith),
      append_assoc (take i rows) (moved_to (shared_column before (drop i rows)) row ∷ []) (lined_up (if row.next then Some (shared_column before (drop i rows)) else None) (drop (i + 1) rows)),
      here,
    )
    refl

-- a row whose comment moves to no smaller column
row_right : (column : ℕ) (row : TrailRow) → row.column ≤ column → (row.column ≤ (moved_to column row).column) × ((moved_to column row).end ≡ row.end)
row_right column row most = elim row.fixed as (λ b. (row.column ≤ (if b then row else record { end = row.end; column = column; next = row.next; fixed = b }).column) × ((if b then row else record { end = row.end; column = column; next = row.next; fixed = b }).end ≡ row.end)) [
  | true ↦ (omega arith, refl)
  | false ↦ (most, refl)
]

-- the largest column of rows is no less than that of the first
first_fits : (row : TrailRow) (rows : List TrailRow) → row.column ≤ largest_column (row ∷ rows)
first_fits row rows = grind arith

-- what the rows behind a row begin with, where the row and they fit into a column
later_fits : (column : ℕ) (row : TrailRow) (rows : List TrailRow) → largest_column (row ∷ rows) ≤ column
    → largest_column rows ≤ shared_column (if row.next then Some column else None) rows
later_fits column row rows most = grind arith

-- no comment moves to the left where the column of the rows is no less than the largest of their own
lined_right : (before : Option ℕ) (rows : List TrailRow) → largest_column rows ≤ shared_column before rows → StandRight rows (lined_up before rows)
lined_right before [] most = tt
lined_right before (row ∷ rows) most =
    let column = shared_column before (row ∷ rows) in
    let first = first_fits row rows in
    let here = row_right column row (omega (arith, first, most)) in
    (here.0, here.1, lined_right (if row.next then Some column else None) rows (later_fits column row rows most))

-- rows stand where they stand
stays : (rows : List TrailRow) → StandRight rows rows
stays [] = tt
stays (row ∷ rows) = (omega arith, refl, stays rows)

-- no comment moves to the left
pub stands_right : (kind : AlignTrailingCommentsKind) (rows : List TrailRow) → StandRight rows (aligned kind rows)
stands_right Always rows = lined_right None rows (omega arith)
stands_right Never rows = stays rows

-- behind the last row all rows are lined up
pub lined_all : (old rows : List TrailRow) (i : ℕ) (before : Option ℕ) → length rows ≤ i → take i rows ++ lined_up before (drop i rows) ≡ lined_up None old → rows ≡ lined_up None old
lined_all old rows i before end done = grind (arith, common_steps, done)
