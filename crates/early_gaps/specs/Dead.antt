-- The gaps beside dead items: docs/PROFILE.md, "Gaps that no run decides".
use Rattle.std.specs.Prelude.{◌≡◌, ◌||◌, ◌&&◌, ℕ, zero, suc, Bool, false, List, length, nat_lt}
use Rattle.token_arena.specs.Gaps.{Contents}
use Rattle.branch_runs.specs.Cut.{end_of}
use Rattle.branch_runs.specs.Dead.{is_dead}
use Rattle.branch_runs.specs.Marks.{marks_of}
use Rattle.branch_runs.specs.Reading.{effects}
use Rattle.branch_runs.specs.declared.mark.Mark.{Mark}

-- These are the marks of a text's sections, each with what it does where it stands.
pub record IsTreeOf (arena : Contents) (tree : List Mark) : Type 0 where
  pub marks : tree ≡ effects (marks_of arena)
  pub end : end_of 0 tree ≡ length arena.tokens

-- there is an item with this number, and it stands in the group of a literal `#if 0`
abbrev pub is_dead_item : Contents → ℕ → Bool
is_dead_item arena id = nat_lt id (length arena.tokens) && is_dead (marks_of arena) id

-- the item before a place does
abbrev pub is_behind_dead : Contents → ℕ → Bool
is_behind_dead arena zero = false
is_behind_dead arena (suc id) = is_dead_item arena id

-- The gaps on both sides of such an item stay.
abbrev pub is_beside_dead : Contents → ℕ → Bool
is_beside_dead arena place = is_dead_item arena place || is_behind_dead arena place
