-- Lines whose columns never come to the largest number, at which sums of columns stop.
use Rattle.std.specs.Prelude.{◌≡◌, ℕ, ◌+◌, ◌*◌, ◌≤◌, Option, Some, length, zero, suc}
use Rattle.line_tokens.specs.Columns.{stored_or}
use Rattle.style_table.specs.declared.style.Style.{Style}
use Rattle.layout_tables.specs.Spaces.{spaces_before}
use Rattle.line_state.specs.declared.gap.Gap.{Gap}
use Rattle.line_state.specs.Line.{Line, first_gap, gap_at}
use Rattle.searched_line.specs.declared.saturation.Saturation.{Saturation}
use Rattle.searched_line.specs.declared.saturation.Saturation.TheVariants.{Never, Possible}

-- the gap before the token at i, the first one's too
abbrev pub gap_into : Line → ℕ → Option Gap
gap_into line zero = first_gap line
gap_into line (suc i) = gap_at line (suc i)

-- as far as the gap and its token can move a column
abbrev pub reach : Style → Gap → ℕ
reach style gap =
    spaces_before style gap.left gap.right + stored_or gap.fixed 0 + gap.right.first_width + gap.right.last_width
    + style.continuation_indent_width

-- no token moves a column further than `width`, and so many as there are don't reach the largest number
pub record IsNarrow (line : Line) : Type 0 where
  pub width : ℕ
  pub each : (i : ℕ) (gap : Gap) → gap_into line i ≡ Some gap → reach line.style gap ≤ width
  pub room : line.column + (length line.tokens + 1) * width ≤ 4294967295

abbrev pub IsSaturation : Line → Saturation → Type 0
IsSaturation line Never = IsNarrow line
IsSaturation line Possible = Unit {0}
