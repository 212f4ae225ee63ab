-- The gaps that stay before the runs: docs/PROFILE.md, "Gaps that no run decides".
use Rattle.std.specs.Prelude.{◌≡◌, ◌||◌, ℕ, Bool, false, Option, Some, None, List, get_or, if◌then◌else◌, slice_get}
use Rattle.token_arena.specs.Gaps.{Contents}
use Rattle.replacements.specs.Sound.{item_before}
use Rattle.replacements.specs.declared.slot.Slot.{Slot}
use Rattle.line_gaps.specs.InputColumns.{kept_slot}
use Rattle.early_gaps.specs.Columns.{column_at}
use Rattle.early_gaps.specs.Dead.{is_beside_dead, is_behind_dead, is_dead_item}
use Rattle.early_gaps.specs.Joined.{is_backslash, is_beside_joined, is_behind_joined}
use Rattle.early_gaps.specs.declared.behind.Behind.{Behind}
use Rattle.early_gaps.specs.declared.columns.InputColumn.{InputColumn}

-- The gap at a place stays: it is marked, since formatting is off there or nobody asked for its line; or it stands
-- beside a dead item, or in a row behind a backslash.
abbrev pub is_kept : Contents → List Bool → ℕ → Bool
is_kept arena frozen place = get_or frozen place false || (is_beside_dead arena place || is_beside_joined arena place)

-- Its bytes stay, and what stands behind it has its column of the input.
abbrev pub kept_at : ℕ → Contents → List Bool → ℕ → Option Slot
kept_at tab arena frozen place =
    if is_kept arena frozen place then Some (kept_slot (column_at tab arena place)) else None

-- What the code keeps.

-- this is what the item before a place is
pub record IsBehind (arena : Contents) (place : ℕ) (behind : Behind) : Type 0 where
  pub dead : behind.dead ≡ is_behind_dead arena place
  pub joined : behind.joined ≡ is_behind_joined arena place
  pub backslash : behind.backslash ≡ is_backslash (item_before arena.tokens place)

-- the column of a place is known
abbrev pub IsColumn : ℕ → Contents → InputColumn → Type 0
IsColumn tab arena known = known.column ≡ column_at tab arena known.place

-- the item before a place makes no gap stay
pub record IsPlain (behind : Behind) : Type 0 where
  pub dead : behind.dead ≡ false
  pub joined : behind.joined ≡ false
  pub backslash : behind.backslash ≡ false

-- The gap at a place isn't marked, and the item there makes no gap stay.
pub record Passes (arena : Contents) (frozen : Bool) (place : ℕ) : Type 0 where
  pub mark : frozen ≡ false
  pub dead : is_dead_item arena place ≡ false
  pub backslash : is_backslash (slice_get arena.tokens place) ≡ false
