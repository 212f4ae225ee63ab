-- The cells of a line: those of each layout that choices reach at a cost not above the least breaking's.
use Rattle.std.specs.Prelude.{◌≡◌, ℕ, ◌≤◌, Bool, List, length, Contains, slice_get, Some, sum_by}
use Rattle.line_state.specs.Choices.{Leads}

-- at most n choices reach the layout, at a cost that no list of n choices goes below
pub record IsCounted {S : Type 0} (step : S → Bool → S → ℕ → Type 0) (root : S) (n : ℕ) (s : S) : Type 0 where
  pub choices : List Bool
  pub cost : ℕ
  pub short : length choices ≤ n
  pub reaches : Leads step root choices s cost
  pub within : (whole : List Bool) (t : S) (c : ℕ) → length whole ≡ n → Leads step root whole t c → cost ≤ c

-- the list has every counted layout
abbrev pub HasCounted : {S : Type 0} → (S → Bool → S → ℕ → Type 0) → S → ℕ → List S → Type 0
HasCounted {S} step root n layouts = (s : S) → IsCounted step root n s → Contains layouts s

-- the number isn't above the line's cells: whatever list has every counted layout, the sum of its cells is no less
abbrev pub IsWithinCells : {S : Type 0} → (S → Bool → S → ℕ → Type 0) → S → ℕ → (S → ℕ) → ℕ → Type 0
IsWithinCells {S} step root n cells told =
    (layouts : List S) → HasCounted step root n layouts → told ≤ sum_by cells layouts

-- the line's cells: the sum over a list that has the counted layouts and no others, each once
pub record IsTotal {S : Type 0} (step : S → Bool → S → ℕ → Type 0) (root : S) (n : ℕ) (cells : S → ℕ) (total : ℕ) :
    Type 0 where
  pub layouts : List S
  pub all : HasCounted step root n layouts
  pub only : (s : S) → Contains layouts s → IsCounted step root n s
  pub apart : (i j : ℕ) (s : S) → slice_get layouts i ≡ Some s → slice_get layouts j ≡ Some s → i ≡ j
  pub sums : total ≡ sum_by cells layouts
