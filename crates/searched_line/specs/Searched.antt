-- Lines that can be searched.
use Rattle.std.specs.Prelude.{◌≡◌, ℕ, ◌<◌, Option, List, length}
use Rattle.line_tokens.specs.declared.LineTok.{LineTok}
use Rattle.line_tokens.specs.declared.Fixed.{Fixed}
use Rattle.style_table.specs.declared.style.Style.{Style}
use Rattle.style_table.specs.Range.{IsInRange}
use Rattle.line_state.specs.Line.{Line}

-- a line that can be searched: it has a token and no more than can be counted, a decision or none for the gap before
-- each, and a style whose numbers are in their ranges
pub record IsSearchable (line : Line) : Type 0 where
  pub some : 0 < length line.tokens
  pub short : length line.tokens < 4294967296
  pub even : length line.fixed ≡ length line.tokens
  pub range : IsInRange line.style

abbrev pub line_of : Style → ℕ → List LineTok → List (Option Fixed) → Line
line_of style column tokens fixed = record { style = style; column = column; tokens = tokens; fixed = fixed }

-- the largest cost that is told; a larger one is told as this
abbrev pub most_told : ℕ
most_told = 18446744073709551615
