-- The ranges of the numbers of a style, as docs/PROFILE.md has them under "Styles".
use Rattle.std.specs.Prelude.{ℕ, ◌≤◌}
use Rattle.style_table.specs.declared.style.Style.{Style}

-- the most that a break or a column past the limit may cost
abbrev pub most_penalty : ℕ
most_penalty = 100000000

-- each number of the style is in its key's range
pub record IsInRange (style : Style) : Type 0 where
  pub column_limit : style.column_limit ≤ 1000
  pub indent_width : style.indent_width ≤ 16
  pub continuation_indent_width : style.continuation_indent_width ≤ 16
  pub least_tab_width : 1 ≤ style.tab_width
  pub tab_width : style.tab_width ≤ 16
  pub max_empty_lines_to_keep : style.max_empty_lines_to_keep ≤ 100
  pub spaces_before_trailing_comments : style.spaces_before_trailing_comments ≤ 16
  pub penalty_break_assignment : style.penalty_break_assignment ≤ most_penalty
  pub penalty_break_before_first_call_parameter : style.penalty_break_before_first_call_parameter ≤ most_penalty
  pub penalty_break_open_parenthesis : style.penalty_break_open_parenthesis ≤ most_penalty
  pub penalty_excess_character : style.penalty_excess_character ≤ most_penalty
  pub penalty_return_type_on_its_own_line : style.penalty_return_type_on_its_own_line ≤ most_penalty
