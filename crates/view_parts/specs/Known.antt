-- Where parts end, as it is noted for items that began one.
use Rattle.std.specs.Prelude.{⊤, ◌≡◌, ◌<◌, ◌+◌, ◌-◌, ◌==◌, ◌⊎◌, ℕ, if◌then◌else◌, Option, Some, None, List, [], ◌∷◌}
use Rattle.std.specs.Prelude.{◌≤◌, All, get_or, length, max, slice_range, slice_set}
use Rattle.std.specs.List.{range_with_len}
use Rattle.token_arena.specs.Gaps.{Contents}
use Rattle.view_parts.specs.declared.known.KnownEnd.{KnownEnd}
use Rattle.view_parts.specs.declared.known.KnownEnd.TheVariants.{Unknown, InRow, InRows, InSpan}
use Rattle.view_parts.specs.declared.known.KnownRow.{KnownRow}
use Rattle.view_parts.specs.declared.known.KnownSpan.{KnownSpan}
use Rattle.view_parts.specs.declared.known.ToldPart.{ToldPart}
use Rattle.view_parts.specs.Parts.{EndsBehind}

-- a part that begins with this item, and goes on in a row, ends so
pub record IsKnownRow (arena : Contents) (id : ℕ) (known : KnownRow) : Type 0 where
  pub some : id < known.end
  pub later : known.end < known.seen
  pub ends : EndsBehind arena None (range_with_len id (known.seen - id))
      (record { count = known.end - id; inside = None })

-- Parts that follow one another in a row, the first of which begins with this item, end so: each behind the item before
-- the next one, and the last before this one. The items of the row up to `seen` tell so, whatever follows them.
abbrev pub FollowInRow : Contents → ℕ → ℕ → ℕ → List ℕ → Type 0
FollowInRow arena seen id last [] = id ≡ last
FollowInRow arena seen id last (end ∷ ends) =
    (id < end) × EndsBehind arena None (range_with_len id (seen - id)) (record { count = end - id; inside = None })
    × FollowInRow arena seen end last ends

-- parts that begin with this item, one behind another in a row, the last of which ends so
pub record AreKnownRows (arena : Contents) (id : ℕ) (known : KnownRow) : Type 0 where
  pub some : id < known.end
  pub later : known.end < known.seen
  pub ends : List ℕ
  pub follow : FollowInRow arena known.seen id known.end ends

-- what is noted for this item is so; what the number of a span stands for is told where the spans are
abbrev pub IsKnown : Contents → ℕ → KnownEnd → Type 0
IsKnown arena id Unknown = ⊤
IsKnown arena id (InRow known) = IsKnownRow arena id known
IsKnown arena id (InRows known) = AreKnownRows arena id known
IsKnown arena id (InSpan number) = ⊤

-- what is noted for items, each at its number, is so
abbrev pub AreKnown : Contents → List KnownEnd → Type 0
AreKnown arena knowns = (id : ℕ) → id < length knowns → IsKnown arena id (get_or knowns id Unknown)

-- a part whose items, with those behind it, are told so ends behind so many
pub record IsSpan (arena : Contents) (span : KnownSpan) : Type 0 where
  pub some : 0 < span.count
  pub later : span.count < length span.told
  pub ends : EndsBehind arena None span.told (record { count = span.count; inside = None })

-- the items of a view from this one on, with which a part begins outside brackets, tell so where it ends
pub record IsToldPart (arena : Contents) (view : List ℕ) (part : ToldPart) : Type 0 where
  pub item : get_or view part.first.place 0 ≡ part.first.id.0
  pub some : part.first.place < part.end
  pub later : part.end < part.told
  pub inside : part.told ≤ length view
  pub ends : EndsBehind arena None (slice_range view part.first.place part.told)
      (record { count = part.end - part.first.place; inside = None })

-- what is noted of parts that stand in no row is so
abbrev pub AreSpans : Contents → List KnownSpan → Type 0
AreSpans arena spans = All (λ span. IsSpan arena span) spans

-- ## Parts that follow one another

-- the row of a part, or of parts that follow one another
abbrev pub row_of : KnownEnd → Option KnownRow
row_of Unknown = None
row_of (InRow known) = Some known
row_of (InRows known) = Some known
row_of (InSpan number) = None

-- the items of a view at the places from one to before another are those of this row, which begins with this item
pub record HasRow (view : List ℕ) (first end id : ℕ) (row : KnownRow) : Type 0 where
  pub some : id < row.end
  pub ends : end ≡ first + (row.end - id)
  pub items : (k : ℕ) → k < row.end - id → get_or view (first + k) 0 ≡ id + k

-- and they are noted so
pub record HasNotedRow (knowns : List KnownEnd) (view : List ℕ) (first end id : ℕ) : Type 0 where
  pub row : KnownRow
  pub noted : row_of (get_or knowns id Unknown) ≡ Some row
  pub has : HasRow view first end id row

-- a row that is noted at this item has the items of a view at the places from one to before another
abbrev pub IsRowAt : List ℕ → ℕ → ℕ → ℕ → KnownEnd → Type 0
IsRowAt view first end id known = (row : KnownRow) → row_of known ≡ Some row → HasRow view first end id row

-- each row that is noted now was noted before, or has the items of a view at the places from one to before another
abbrev pub AreRowsFrom : List KnownEnd → List ℕ → ℕ → ℕ → List KnownEnd → Type 0
AreRowsFrom earlier view first end knowns =
    (id : ℕ) (row : KnownRow) → row_of (get_or knowns id Unknown) ≡ Some row
    → (row_of (get_or earlier id Unknown) ≡ Some row) ⊎ HasRow view first end id row

abbrev pub joined_rows : KnownRow → ℕ → KnownRow → Option KnownRow
joined_rows row next behind =
    if row.end == next then Some (record { end = behind.end; seen = max row.seen behind.seen }) else None

-- the parts of two rows as one row, where the second begins with this item behind the first
abbrev pub joined : KnownEnd → ℕ → KnownEnd → Option KnownRow
joined first next later =
    elim (row_of first) [
      | None ↦ None
      | Some row ↦ elim (row_of later) [
        | None ↦ None
        | Some behind ↦ joined_rows row next behind
      ]
    ]

-- what is noted for items once the parts of the second one follow those of the first in what is noted for that one
abbrev pub after_joined : List KnownEnd → ℕ → ℕ → List KnownEnd
after_joined knowns first next =
    elim (joined (get_or knowns first Unknown) next (get_or knowns next Unknown)) [
      | None ↦ knowns
      | Some row ↦ slice_set knowns first (InRows row)
    ]

-- the item with which the row begins that has the parts of the second one
abbrev pub item_of_row : List KnownEnd → ℕ → ℕ → ℕ
item_of_row knowns first next =
    elim (joined (get_or knowns first Unknown) next (get_or knowns next Unknown)) [
      | None ↦ next
      | Some row ↦ first
    ]
