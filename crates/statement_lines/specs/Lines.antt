-- The lines of tokens, as they are kept: lines of a view, and beside those up to the last that needs it the level of a
-- comment before it. Behind that one, such a comment stands at the level of its line.
use Rattle.std.specs.Prelude.{ℕ, ◌+◌, ◌-◌, ◌<◌, ◌≤◌, ◌^◌, List, [], ◌∷◌, All, length}
use Rattle.line_tokens.specs.declared.line.ULine.{ULine}
use Rattle.statement_lines.specs.declared.line.Line.{Line}

-- the line of a view without comments whose tokens this line has
abbrev pub row_of : Line → ULine
row_of l = record { first = l.first; last = l.end - 1; level = l.level; kind = l.kind }

abbrev pub line_told : ULine → ℕ → Line
line_told row list_level =
    record { first = row.first; end = row.last + 1; level = row.level; kind = row.kind; list_level = list_level }

abbrev pub lines_told : List ULine → List ℕ → List Line
lines_told [] levels = []
lines_told (row ∷ rows) [] = line_told row row.level ∷ lines_told rows []
lines_told (row ∷ rows) (level ∷ levels) = line_told row level ∷ lines_told rows levels

-- so they are kept together
pub record AreKept (rows : List ULine) (levels : List ℕ) : Type 0 where
  pub count : length levels ≤ length rows
  pub low : All (λ (row : ULine). row.last + 1 < 2 ^ 32) rows
