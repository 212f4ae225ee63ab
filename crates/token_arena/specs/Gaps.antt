-- The bytes between the items that are kept of a text.
use Rattle.std.specs.Prelude.{◌≡◌, ◌≤◌, ◌<◌, ◌+◌, ◌-◌, ℕ, Bool, false, Option, None, Some, slice_get, List, zero, suc}
use Rattle.std.specs.Prelude.{[], ◌∷◌, ◌++◌, length, take, drop}
use Rattle.c_chars.specs.Characters.{mark_len}
use Rattle.c_chars.specs.declared.Dialect.{Dialect}
use Rattle.token_arena.specs.Stored.{Stored}

-- a text, the dialect that it is read in, and what is kept of its items in the order of the text
pub record Contents : Type 0 where
  pub text : List ℕ
  pub dialect : Dialect
  pub tokens : List Stored

abbrev pub began_of_item : Option Stored → Bool
began_of_item None = false
began_of_item (Some token) = token.gap.began

-- the item with this number began its line
abbrev pub item_began : Contents → ℕ → Bool
item_began arena id = began_of_item (slice_get arena.tokens id)

-- the offset behind an item
abbrev pub behind : Stored → ℕ
behind token = token.start + length token.raw

-- the gap at a place, where the first one begins at this offset
abbrev pub gap_from : List ℕ → ℕ → List Stored → ℕ → List ℕ
gap_from text at [] place = drop at text
gap_from text at (token ∷ tokens) zero = take (token.start - at) (drop at text)
gap_from text at (token ∷ tokens) (suc place) = gap_from text (behind token) tokens place

-- the gap before the item with this number; behind the last item the last gap. The first gap begins behind the byte
-- order mark.
abbrev pub gap_of : Contents → ℕ → List ℕ
gap_of arena place = gap_from arena.text (mark_len arena.text) arena.tokens place

-- gaps and items in their order, where the first gap begins at this offset
abbrev pub joined_from : List ℕ → ℕ → List Stored → List ℕ
joined_from text at [] = drop at text
joined_from text at (token ∷ tokens) =
    take (token.start - at) (drop at text) ++ (token.raw ++ joined_from text (behind token) tokens)

-- all gaps and items in their order
abbrev pub joined : Contents → List ℕ
joined arena = joined_from arena.text (mark_len arena.text) arena.tokens

-- An item stands where it says, at this offset or behind it, and has bytes.
pub record Stands (text : List ℕ) (at : ℕ) (token : Stored) : Type 0 where
  pub later : at ≤ token.start
  pub within : behind token ≤ length text
  pub bytes : token.raw ≡ take (length token.raw) (drop token.start text)
  pub some : 0 < length token.raw

-- These items stand in order, at this offset or behind it.
abbrev pub StandFrom : List ℕ → ℕ → List Stored → Type 0
StandFrom text at [] = at ≤ length text
StandFrom text at (token ∷ tokens) = Stands text at token × StandFrom text (behind token) tokens

-- where the gap at a place begins, and where it ends
abbrev pub gap_start : ℕ → List Stored → ℕ → ℕ
gap_start at tokens zero = at
gap_start at [] (suc place) = at
gap_start at (token ∷ tokens) (suc place) = gap_start (behind token) tokens place

abbrev pub gap_end : ℕ → List Stored → ℕ → ℕ
gap_end len [] place = len
gap_end len (token ∷ tokens) zero = token.start
gap_end len (token ∷ tokens) (suc place) = gap_end len tokens place
