-- Rows of items: places of a view whose items follow one another in the text.
use Rattle.std.specs.Prelude.{◌≡◌, ◌<◌, ◌≤◌, suc, ◌+◌, ◌^◌, ◌==◌, ℕ, List, [], ◌∷◌, zero, drop, get_or, if◌then◌else◌}
use Rattle.std.specs.Prelude.{length}
use Rattle.view_parts.specs.declared.row.Row.{Row}

-- the items of a view from a place on, up to the end of a row
pub record IsRow (view : List ℕ) (place : ℕ) (row : Row) : Type 0 where
  pub inside : row.end ≤ length view
  pub fits : row.end + row.shift ≤ 2 ^ 32
  pub items : (k : ℕ) → place ≤ k → k < row.end → get_or view k 0 ≡ k + row.shift

-- ## Segments: a view has one for each unbroken stretch of items, and they have numbers, from 0 on

-- how many of these items follow this one in its stretch
abbrev pub stretch_behind : ℕ → List ℕ → ℕ
stretch_behind id [] = 0
stretch_behind id (next ∷ ids) = if next == id + 1 then suc (stretch_behind next ids) else 0

-- the number of the segment of the item at a place: how many stretches end before it
abbrev pub segment_number : List ℕ → ℕ → ℕ
segment_number ids zero = 0
segment_number [] (suc place) = 0
segment_number (id ∷ ids) (suc place) =
    if get_or ids 0 0 == id + 1 then segment_number ids place else suc (segment_number ids place)

-- how many items stand behind the one at a place in its segment, and none where that has another number
abbrev pub row_behind : List ℕ → ℕ → ℕ → ℕ
row_behind view place number =
    if segment_number view place == number then stretch_behind (get_or view place 0) (drop (suc place) view) else 0
