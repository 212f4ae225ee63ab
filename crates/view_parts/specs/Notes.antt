-- What is noted for items. The notes of a block of sixteen items are a chain: each has the place behind the one before
-- it, or 0, and the block has the place behind the newest.
use Rattle.std.specs.Prelude.{ℕ, zero, suc, ◌/◌, ◌*◌, ◌<◌, ◌≤◌, ◌==◌, if◌then◌else◌, List, Option, None, Some, get_or}
use Rattle.std.specs.Prelude.{length, map, slice_get}
use Rattle.std.specs.List.{range_with_len}
use Rattle.view_parts.specs.declared.known.KnownEnd.{KnownEnd}
use Rattle.view_parts.specs.declared.known.KnownEnd.TheVariants.{Unknown}
use Rattle.view_parts.specs.declared.notes.Note.{Note}

-- the note at a place where it is the item's, or else what is told of the chain from the one before it
abbrev pub own_or_before : ℕ → ℕ → Option Note → (ℕ → Option ℕ) → Option ℕ
own_or_before id at None told = None
own_or_before id at (Some note) told = if note.id == id then Some at else told note.before

-- which note is the item's in a chain, as so many steps back from a place tell
abbrev pub note_within : List Note → ℕ → ℕ → ℕ → Option ℕ
note_within notes id zero place = None
note_within notes id (suc steps) zero = None
note_within notes id (suc steps) (suc at) = own_or_before id at (slice_get notes at) (note_within notes id steps)

-- the same of all of the chain: each step goes back by a place at least
abbrev pub note_of : List Note → ℕ → ℕ → Option ℕ
note_of notes id newest = note_within notes id newest newest

-- what a note tells of an item: that of another item tells nothing
abbrev pub told_of : ℕ → Option Note → KnownEnd
told_of id None = Unknown
told_of id (Some note) = if note.id == id then note.end else Unknown

-- what the note at a place, if there is one, tells of an item
abbrev pub told_at : List Note → ℕ → Option ℕ → KnownEnd
told_at notes id None = Unknown
told_at notes id (Some at) = told_of id (slice_get notes at)

-- what is noted for an item
abbrev pub known_end : List Note → List ℕ → ℕ → KnownEnd
known_end notes newest id = told_at notes id (note_of notes id (get_or newest (id / 16) 0))

-- what is noted for so many items
abbrev pub known_ends : List Note → List ℕ → ℕ → List KnownEnd
known_ends notes newest count = map (λ id. known_end notes newest id) (range_with_len 0 count)

-- each note stands behind the one before it of its block
abbrev pub Fall : List Note → Type 0
Fall notes = (at : ℕ) → (d : Note) → at < length notes → (get_or notes at d).before ≤ at

-- so many items have their blocks, whose chains are those of notes
pub record AreChains (notes : List Note) (newest : List ℕ) (count : ℕ) : Type 0 where
  pub blocks : count ≤ length newest * 16
  pub within : (block : ℕ) → get_or newest block 0 ≤ length notes
  pub fall : Fall notes
