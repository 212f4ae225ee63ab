-- How a plan lies in memory, which its model hides.
use Rattle.std.specs.Prelude.{◌<◌, ◌≤◌, ◌+◌, ◌*◌, ◌++◌, ◌^◌, ◌≡◌, ℕ, suc, Bool, true, false, Option, Some, None}
use Rattle.std.specs.Prelude.{List, [], ◌∷◌, All, get_or, length, map, slice_get}
use Rattle.replacements.specs.declared.gap_text.Decision.TheVariants as decision
use Rattle.replacements.specs.declared.slot.Slot.{Slot}
use Rattle.replacements.specs.declared.entry.Entry.{Entry}
use Rattle.replacements.specs.declared.entry.Entry.TheVariants.{Open, Old, Spaces, Line, BlankLine}
use Rattle.replacements.specs.declared.entry.Entry.TheVariants.{FarOld, FarNothing, FarBlank, DeepLine, Apart}

-- a number by its pages, and how many it is behind them
abbrev pub in_pages : ℕ → ℕ → ℕ
in_pages page at = page * 65536 + at

-- a line end and the indentation of a level, where each level takes so many columns
abbrev pub deep_slot : ℕ → ℕ → Slot
deep_slot width level = record { decision = decision.Lines 1 (level * width) level; end = level * width }

-- what an entry has for its gap, where a level takes so many columns and these decisions stand apart: nothing where it
-- is open
abbrev pub slot_in : ℕ → List Slot → Entry → Option Slot
slot_in width apart Open = None
slot_in width apart (Old end) = Some (record { decision = decision.Old; end = end })
slot_in width apart (Spaces count end) = Some (record { decision = decision.Spaces count; end = end })
slot_in width apart (Line level column) = Some (record { decision = decision.Lines 1 column level; end = column })
slot_in width apart (BlankLine level column) = Some (record { decision = decision.Lines 2 column level; end = column })
slot_in width apart (FarOld page at) = Some (record { decision = decision.Old; end = in_pages page at })
slot_in width apart (FarNothing page at) = Some (record { decision = decision.Spaces 0; end = in_pages page at })
slot_in width apart (FarBlank page at) = Some (record { decision = decision.Spaces 1; end = in_pages page at })
slot_in width apart (DeepLine page at) = Some (deep_slot width (in_pages page at))
slot_in width apart (Apart page at) = slice_get apart (in_pages page at)

-- what entries have for their gaps
abbrev pub slots_in : ℕ → List Slot → List Entry → List (Option Slot)
slots_in width apart entries = map (slot_in width apart) entries

-- an entry whose column and level are small, or that is open
abbrev pub is_near : Entry → Bool
is_near Open = true
is_near (Old end) = true
is_near (Spaces count end) = true
is_near (Line level column) = true
is_near (BlankLine level column) = true
is_near (FarOld page at) = false
is_near (FarNothing page at) = false
is_near (FarBlank page at) = false
is_near (DeepLine page at) = false
is_near (Apart page at) = false

-- nothing is decided
abbrev pub is_open : Entry → Bool
is_open Open = true
is_open (Old end) = false
is_open (Spaces count end) = false
is_open (Line level column) = false
is_open (BlankLine level column) = false
is_open (FarOld page at) = false
is_open (FarNothing page at) = false
is_open (FarBlank page at) = false
is_open (DeepLine page at) = false
is_open (Apart page at) = false

-- the entries from one up to another are those of decided gaps
abbrev pub AreTaken : List Entry → ℕ → ℕ → Type 0
AreTaken entries first end = (place : ℕ) → first ≤ place → place < end → is_open (get_or entries place Open) ≡ false

-- one of them is that of an open gap
pub record IsSomeFree (entries : List Entry) (first end : ℕ) : Type 0 where
  pub place : ℕ
  pub from : first ≤ place
  pub within : place < end
  pub free : is_open (get_or entries place Open) ≡ true

-- how many entries are those of open gaps
abbrev pub open_in : List Entry → ℕ
open_in [] = 0
open_in (Open ∷ later) = suc (open_in later)
open_in (Old end ∷ later) = open_in later
open_in (Spaces count end ∷ later) = open_in later
open_in (Line level column ∷ later) = open_in later
open_in (BlankLine level column ∷ later) = open_in later
open_in (FarOld page at ∷ later) = open_in later
open_in (FarNothing page at ∷ later) = open_in later
open_in (FarBlank page at ∷ later) = open_in later
open_in (DeepLine page at ∷ later) = open_in later
open_in (Apart page at ∷ later) = open_in later

-- a decision that an entry says stands apart stands there
abbrev pub IsHeld : List Slot → Entry → Type 0
IsHeld apart Open = Unit
IsHeld apart (Old end) = Unit
IsHeld apart (Spaces count end) = Unit
IsHeld apart (Line level column) = Unit
IsHeld apart (BlankLine level column) = Unit
IsHeld apart (FarOld page at) = Unit
IsHeld apart (FarNothing page at) = Unit
IsHeld apart (FarBlank page at) = Unit
IsHeld apart (DeepLine page at) = Unit
IsHeld apart (Apart page at) = in_pages page at < length apart

-- the decisions that stand apart are those of the entries, and there is room for those of all gaps that are open
pub record FitApart (apart : List Slot) (capacity : ℕ) (entries : List Entry) : Type 0 where
  pub held : All (IsHeld apart) entries
  pub few : length apart + open_in entries ≤ length entries
  pub room : length entries ≤ capacity
  pub count : length entries < 2 ^ 24

-- one decision more stands apart, or none
pub record IsGrown (before after : List Slot) : Type 0 where
  pub more : List Slot
  pub grown : after ≡ before ++ more
  pub few : length more ≤ 1
