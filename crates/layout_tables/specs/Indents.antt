-- Where the row of a line starts, and how many empty lines stand before it. docs/PROFILE.md has both under "Rows of
-- lines".
use Rattle.std.specs.Prelude.{ℕ, ◌*◌, ◌-◌, ◌==◌, ◌&&◌, ◌||◌, not, min, Bool, true, false, Option, Some, None}
use Rattle.std.specs.Prelude.{if◌then◌else◌}
use Rattle.std.specs.Borrow.{Bor}
use Rattle.style_table.specs.declared.style.Style.{Style}
use Rattle.line_tokens.specs.declared.LineTok.{LineTok}
use Rattle.line_tokens.specs.Roles.{is_block_open, is_block_close}
use Rattle.line_tokens.specs.declared.line.LineKind.{LineKind}
use Rattle.line_tokens.specs.declared.line.LineKind.TheVariants.{Close}
use Rattle.line_tokens.specs.declared.line.ULine.{ULine}

-- the greatest column
abbrev pub most_column : ℕ
most_column = 4294967295

-- a line's level times IndentWidth; no column is greater than the greatest
abbrev pub start_column : Style → ULine → ℕ
start_column style line = min (line.level * style.indent_width) most_column

abbrev pub is_close : LineKind → Bool
is_close Close = true
is_close _ = false

-- the line begins with the `}` of a block
abbrev pub begins_with_close : ULine → LineTok → Bool
begins_with_close line first = is_close line.kind && is_block_close first.role

-- the token before is the `{` of a block
abbrev pub opens_block : Option (Bor LineTok) → Bool
opens_block None = false
opens_block (Some token) = is_block_open token.now.role

-- No empty line is kept at the file's start, before a `}` that begins a line, and behind the `{` of a block unless the
-- style keeps them there.
abbrev pub keeps_none : Style → Option (Bor LineTok) → ULine → LineTok → Bool
keeps_none style before line first =
    (first.id.0 == 0)
    || (begins_with_close line first || (not style.keep_empty_lines_at_the_start_of_blocks && opens_block before))

-- the empty lines of the gap before the token, at most MaxEmptyLinesToKeep of them
abbrev pub empty_lines : Style → Option (Bor LineTok) → ULine → LineTok → ℕ
empty_lines style before line first =
    if keeps_none style before line first then 0 else min style.max_empty_lines_to_keep (first.gap.lines - 1)
