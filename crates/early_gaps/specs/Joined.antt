-- Rows behind a backslash, blanks and a new-line: docs/PROFILE.md, "Gaps that no run decides". C11 5.1.1.2p1 joins
-- lines only where the new-line stands directly behind the backslash, and some compilers here too.
use Rattle.std.specs.Prelude.{◌||◌, ◌&&◌, ℕ, zero, suc, Bool, false, Option, Some, None, slice_get, if◌then◌else◌}
use Rattle.c_grammar.specs.Touch.{is_other_kind}
use Rattle.token_arena.specs.Stored.{Stored}
use Rattle.token_arena.specs.Gaps.{Contents}
use Rattle.replacements.specs.Breaks.{has_new_line_at}

-- an item is a backslash alone, also one that a trigraph spells
abbrev pub is_backslash : Option Stored → Bool
is_backslash None = false
is_backslash (Some token) = is_other_kind token.kind && token.back

-- The row of what stands behind the gap at a place begins behind such an item.
abbrev pub is_joined : Contents → ℕ → Bool
is_joined arena zero = false
is_joined arena (suc id) =
    if has_new_line_at arena (suc id) then is_backslash (slice_get arena.tokens id) else is_joined arena id

-- the row of the item before a place does
abbrev pub is_behind_joined : Contents → ℕ → Bool
is_behind_joined arena zero = false
is_behind_joined arena (suc id) = is_joined arena id

-- The gaps of such a row stay, from the new-line before it to the one behind it.
abbrev pub is_beside_joined : Contents → ℕ → Bool
is_beside_joined arena place = is_joined arena place || is_behind_joined arena place
