-- Numbers of items in the order of a text.
use Rattle.std.specs.Prelude.{ℕ, ◌+◌, ◌≤◌, List, [], ◌∷◌, ⊤}

-- these numbers increase, and none is below a bound
abbrev pub IncreaseFrom : ℕ → List ℕ → Type 0
IncreaseFrom low [] = ⊤
IncreaseFrom low (id ∷ ids) = (low ≤ id) × IncreaseFrom (id + 1) ids

-- each number is greater than the one before it
abbrev pub Increase : List ℕ → Type 0
Increase ids = IncreaseFrom 0 ids
