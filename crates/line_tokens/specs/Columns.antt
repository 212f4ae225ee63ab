-- Where tokens stand on a row: docs/PROFILE.md, "Columns".
use Rattle.std.specs.Prelude.{ℕ, ◌+◌, min, nat_lt, if◌then◌else◌, Option, Some, None}
use Rattle.line_tokens.specs.declared.LineTok.{LineTok}
use Rattle.line_tokens.specs.declared.Fixed.{Fixed}

-- a sum of columns, which stops at the largest number of a column
abbrev pub columns : ℕ → ℕ → ℕ
columns a b = min (a + b) 4294967295

-- the stored column of a decided gap, or the other
abbrev pub stored_or : Option Fixed → ℕ → ℕ
stored_or None other = other
stored_or (Some fixed) other = fixed.column

-- the column behind the token, that of its last row
abbrev pub end_of : LineTok → ℕ → ℕ
end_of token start = if nat_lt 1 token.rows then token.last_width else columns start token.last_width
