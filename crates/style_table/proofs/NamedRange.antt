-- The numbers of the named styles are in their ranges.
use Rattle.std.proofs.Common.{lit≤}
use Rattle.style_table.specs.declared.named.NamedStyle.{NamedStyle}
use Rattle.style_table.specs.declared.named.NamedStyle.TheVariants.{Llvm, Google, WebKit, Mozilla, Microsoft}
use Rattle.style_table.specs.Named.{style_of}
use Rattle.style_table.specs.Range.{IsInRange}

pub style_of-IsInRange : (name : NamedStyle) → IsInRange (style_of name)
style_of-IsInRange Llvm = record {
  column_limit = lit≤ tt;
  indent_width = lit≤ tt;
  continuation_indent_width = lit≤ tt;
  least_tab_width = lit≤ tt;
  tab_width = lit≤ tt;
  max_empty_lines_to_keep = lit≤ tt;
  spaces_before_trailing_comments = lit≤ tt;
  penalty_break_assignment = lit≤ tt;
  penalty_break_before_first_call_parameter = lit≤ tt;
  penalty_break_open_parenthesis = lit≤ tt;
  penalty_excess_character = lit≤ tt;
  penalty_return_type_on_its_own_line = lit≤ tt;
}
style_of-IsInRange Google = record {
  column_limit = lit≤ tt;
  indent_width = lit≤ tt;
  continuation_indent_width = lit≤ tt;
  least_tab_width = lit≤ tt;
  tab_width = lit≤ tt;
  max_empty_lines_to_keep = lit≤ tt;
  spaces_before_trailing_comments = lit≤ tt;
  penalty_break_assignment = lit≤ tt;
  penalty_break_before_first_call_parameter = lit≤ tt;
  penalty_break_open_parenthesis = lit≤ tt;
  penalty_excess_character = lit≤ tt;
  penalty_return_type_on_its_own_line = lit≤ tt;
}
style_of-IsInRange WebKit = record {
  column_limit = lit≤ tt;
  indent_width = lit≤ tt;
  continuation_indent_width = lit≤ tt;
  least_tab_width = lit≤ tt;
  tab_width = lit≤ tt;
  max_empty_lines_to_keep = lit≤ tt;
  spaces_before_trailing_comments = lit≤ tt;
  penalty_break_assignment = lit≤ tt;
  penalty_break_before_first_call_parameter = lit≤ tt;
  penalty_break_open_parenthesis = lit≤ tt;
  penalty_excess_character = lit≤ tt;
  penalty_return_type_on_its_own_line = lit≤ tt;
}
style_of-IsInRange Mozilla = record {
  column_limit = lit≤ tt;
  indent_width = lit≤ tt;
  continuation_indent_width = lit≤ tt;
  least_tab_width = lit≤ tt;
  tab_width = lit≤ tt;
  max_empty_lines_to_keep = lit≤ tt;
  spaces_before_trailing_comments = lit≤ tt;
  penalty_break_assignment = lit≤ tt;
  penalty_break_before_first_call_parameter = lit≤ tt;
  penalty_break_open_parenthesis = lit≤ tt;
  penalty_excess_character = lit≤ tt;
  penalty_return_type_on_its_own_line = lit≤ tt;
}
style_of-IsInRange Microsoft = record {
  column_limit = lit≤ tt;
  indent_width = lit≤ tt;
  continuation_indent_width = lit≤ tt;
  least_tab_width = lit≤ tt;
  tab_width = lit≤ tt;
  max_empty_lines_to_keep = lit≤ tt;
  spaces_before_trailing_comments = lit≤ tt;
  penalty_break_assignment = lit≤ tt;
  penalty_break_before_first_call_parameter = lit≤ tt;
  penalty_break_open_parenthesis = lit≤ tt;
  penalty_excess_character = lit≤ tt;
  penalty_return_type_on_its_own_line = lit≤ tt;
}
