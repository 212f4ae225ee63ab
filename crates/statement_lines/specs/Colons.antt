-- The colons of case labels, one for each place.
use Rattle.std.specs.Prelude.{◌≡◌, ◌<◌, ◌≤◌, ℕ, ◌+◌, ◌-◌, List, length, slice_index_or}
use Rattle.statement_lines.specs.declared.token.CodeToken.{CodeToken}
use Rattle.statement_lines.specs.Forms.{case_colon}

-- From this place on, each place has the first colon at it or behind it, outside brackets, that answers no `?`; where
-- there is none, the number of tokens.
pub record AreColonsFrom (from : ℕ) (colons : List ℕ) (tokens : List CodeToken) : Type 0 where
  pub count : length colons ≡ length tokens + 1
  pub colon : (j : ℕ) → from ≤ j → j ≤ length tokens →
      slice_index_or colons j 0 ≡ case_colon (length tokens - j) tokens (length tokens) j 0

-- where any colons are kept, each place has its colon
abbrev pub AreCaseColons : List ℕ → List CodeToken → Type 0
AreCaseColons colons tokens = 0 < length colons → AreColonsFrom 0 colons tokens
