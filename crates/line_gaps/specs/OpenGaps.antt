-- Which gaps a plan leaves open.
use Rattle.std.specs.Prelude.{◌≡◌, ◌<◌, ◌≤◌, ◌+◌, ℕ, Option, None, IsSome, List, get_or}
use Rattle.line_tokens.specs.declared.line.ULine.{ULine}
use Rattle.replacements.specs.declared.slot.Slot.{Slot}
use Rattle.replacements.specs.Decisions.{slot_of}

-- each gap of a line is decided
abbrev pub AreDecided : List (Option Slot) → List ℕ → ULine → Type 0
AreDecided plan ids line = (k : ℕ) → line.first ≤ k → k < line.last + 1 → IsSome (slot_of plan (get_or ids k 0))

-- the gap before each item from one up to another is decided
abbrev pub IsRowDecided : List (Option Slot) → ℕ → ℕ → Type 0
IsRowDecided plan first end = (id : ℕ) → first ≤ id → id < end → IsSome (slot_of plan id)

-- the gap before one of them is open
pub record IsRowOpen (plan : List (Option Slot)) (first end : ℕ) : Type 0 where
  pub id : ℕ
  pub from : first ≤ id
  pub within : id < end
  pub open_gap : slot_of plan id ≡ None

-- some gap of a line is open
pub record IsOpen (plan : List (Option Slot)) (ids : List ℕ) (line : ULine) : Type 0 where
  pub place : ℕ
  pub from : line.first ≤ place
  pub within : place < line.last + 1
  pub open_gap : slot_of plan (get_or ids place 0) ≡ None
