-- What is read keeps the numbers of a style in their ranges.
use Rattle.std.proofs.Common.{ℕ, ◌≤◌, Result, Ok, Err, List, arith}
use Rattle.std.specs.Prelude.{IfOk}
use Rattle.std.proofs.lemmas.Grind.{common_steps}
use Rattle.style_table.specs.declared.style.Style.{Style}
use Rattle.style_table.specs.declared.key.Key.{Key}
use Rattle.style_table.specs.declared.value.ValueFault.{ValueFault}
use Rattle.style_table.specs.Words.{value_in, align_after_open_bracket_words, align_escaped_newlines_words, align_trailing_comments_kind_words, allow_short_blocks_on_a_single_line_words, allow_short_functions_on_a_single_line_words, allow_short_if_statements_on_a_single_line_words, bool_words, brace_wrapping_after_control_statement_words, break_before_binary_operators_words, break_before_braces_words, indent_pp_directives_words, line_ending_words, pointer_alignment_words, space_before_parens_words, use_tab_words}
use Rattle.style_table.specs.Keys.{number_in, changed, with_value}
use Rattle.style_table.specs.Range.{IsInRange, most_penalty}

-- a number that is read is within its bounds
number_in-within : (least most : ℕ) (text : List ℕ) → IfOk (number_in least most text) (λ n. (least ≤ n) × (n ≤ most))
number_in-within least most text = grind (arith, common_steps)

changed-within : {V : Type 0} (change : V → Style) (P : V → Type 0) (read : Result V ValueFault) → IfOk read P
    → ((v : V) → P v → IsInRange (change v)) → IfOk (changed change read) (λ style. IsInRange style)
changed-within change P (Ok v) holds keeps = keeps v holds
changed-within change P (Err fault) holds keeps = tt

-- the change by a number
by_number : (change : ℕ → Style) (least most : ℕ) (text : List ℕ) → ((n : ℕ) → least ≤ n → n ≤ most → IsInRange (change n))
    → IfOk (changed change (number_in least most text)) (λ style. IsInRange style)
by_number change least most text keeps =
    changed-within change (λ n. (least ≤ n) × (n ≤ most)) (number_in least most text) (number_in-within least most text) (λ n bounds. keeps n bounds.0 bounds.1)

-- the change by a value that is no number
by_word : {V : Type 0} (change : V → Style) (read : Result V ValueFault) → ((v : V) → IsInRange (change v))
    → IfOk (changed change read) (λ style. IsInRange style)
by_word change (Ok v) keeps = keeps v
by_word change (Err fault) keeps = tt

-- the ranges, one behind the other
abbrev Ranges : Style → Type 0
Ranges style =
    (style.column_limit ≤ 1000)
    × (style.indent_width ≤ 16)
    × (style.continuation_indent_width ≤ 16)
    × (1 ≤ style.tab_width)
    × (style.tab_width ≤ 16)
    × (style.max_empty_lines_to_keep ≤ 100)
    × (style.spaces_before_trailing_comments ≤ 16)
    × (style.penalty_break_assignment ≤ most_penalty)
    × (style.penalty_break_before_first_call_parameter ≤ most_penalty)
    × (style.penalty_break_open_parenthesis ≤ most_penalty)
    × (style.penalty_excess_character ≤ most_penalty)
    × (style.penalty_return_type_on_its_own_line ≤ most_penalty)

ranges_of : (style : Style) → IsInRange style → Ranges style
ranges_of style range = (range.column_limit, range.indent_width, range.continuation_indent_width, range.least_tab_width, range.tab_width, range.max_empty_lines_to_keep, range.spaces_before_trailing_comments, range.penalty_break_assignment, range.penalty_break_before_first_call_parameter, range.penalty_break_open_parenthesis, range.penalty_excess_character, range.penalty_return_type_on_its_own_line)

is_in_range : (style : Style) → Ranges style → IsInRange style
is_in_range style ranges = record {
  column_limit = ranges.0;
  indent_width = ranges.1;
  continuation_indent_width = ranges.2;
  least_tab_width = ranges.3;
  tab_width = ranges.4;
  max_empty_lines_to_keep = ranges.5;
  spaces_before_trailing_comments = ranges.6;
  penalty_break_assignment = ranges.7;
  penalty_break_before_first_call_parameter = ranges.8;
  penalty_break_open_parenthesis = ranges.9;
  penalty_excess_character = ranges.10;
  penalty_return_type_on_its_own_line = ranges.11;
}

-- a style whose numbers are in their ranges has them there after a value was read
pub with_value-IsInRange : (style : Style) → IsInRange style → (key : Key) (text : List ℕ)
    → IfOk (with_value style key text) (λ changed. IsInRange changed)
with_value-IsInRange style range Key.ColumnLimit text = by_number (λ v. record style { column_limit = v }) 0 1000 text (λ n low high. record { column_limit = high; indent_width = range.indent_width; continuation_indent_width = range.continuation_indent_width; least_tab_width = range.least_tab_width; tab_width = range.tab_width; max_empty_lines_to_keep = range.max_empty_lines_to_keep; spaces_before_trailing_comments = range.spaces_before_trailing_comments; penalty_break_assignment = range.penalty_break_assignment; penalty_break_before_first_call_parameter = range.penalty_break_before_first_call_parameter; penalty_break_open_parenthesis = range.penalty_break_open_parenthesis; penalty_excess_character = range.penalty_excess_character; penalty_return_type_on_its_own_line = range.penalty_return_type_on_its_own_line })
with_value-IsInRange style range Key.IndentWidth text = by_number (λ v. record style { indent_width = v }) 0 16 text (λ n low high. record { column_limit = range.column_limit; indent_width = high; continuation_indent_width = range.continuation_indent_width; least_tab_width = range.least_tab_width; tab_width = range.tab_width; max_empty_lines_to_keep = range.max_empty_lines_to_keep; spaces_before_trailing_comments = range.spaces_before_trailing_comments; penalty_break_assignment = range.penalty_break_assignment; penalty_break_before_first_call_parameter = range.penalty_break_before_first_call_parameter; penalty_break_open_parenthesis = range.penalty_break_open_parenthesis; penalty_excess_character = range.penalty_excess_character; penalty_return_type_on_its_own_line = range.penalty_return_type_on_its_own_line })
with_value-IsInRange style range Key.ContinuationIndentWidth text = by_number (λ v. record style { continuation_indent_width = v }) 0 16 text (λ n low high. record { column_limit = range.column_limit; indent_width = range.indent_width; continuation_indent_width = high; least_tab_width = range.least_tab_width; tab_width = range.tab_width; max_empty_lines_to_keep = range.max_empty_lines_to_keep; spaces_before_trailing_comments = range.spaces_before_trailing_comments; penalty_break_assignment = range.penalty_break_assignment; penalty_break_before_first_call_parameter = range.penalty_break_before_first_call_parameter; penalty_break_open_parenthesis = range.penalty_break_open_parenthesis; penalty_excess_character = range.penalty_excess_character; penalty_return_type_on_its_own_line = range.penalty_return_type_on_its_own_line })
with_value-IsInRange style range Key.TabWidth text = by_number (λ v. record style { tab_width = v }) 1 16 text (λ n low high. record { column_limit = range.column_limit; indent_width = range.indent_width; continuation_indent_width = range.continuation_indent_width; least_tab_width = low; tab_width = high; max_empty_lines_to_keep = range.max_empty_lines_to_keep; spaces_before_trailing_comments = range.spaces_before_trailing_comments; penalty_break_assignment = range.penalty_break_assignment; penalty_break_before_first_call_parameter = range.penalty_break_before_first_call_parameter; penalty_break_open_parenthesis = range.penalty_break_open_parenthesis; penalty_excess_character = range.penalty_excess_character; penalty_return_type_on_its_own_line = range.penalty_return_type_on_its_own_line })
with_value-IsInRange style range Key.UseTab text = by_word (λ v. record style { use_tab = v }) (value_in use_tab_words text) (λ v. is_in_range (record style { use_tab = v }) (ranges_of style range))
with_value-IsInRange style range Key.BreakBeforeBraces text = by_word (λ v. record style { break_before_braces = v }) (value_in break_before_braces_words text) (λ v. is_in_range (record style { break_before_braces = v }) (ranges_of style range))
with_value-IsInRange style range Key.BraceWrappingAfterCaseLabel text = by_word (λ v. record style { brace_wrapping_after_case_label = v }) (value_in bool_words text) (λ v. is_in_range (record style { brace_wrapping_after_case_label = v }) (ranges_of style range))
with_value-IsInRange style range Key.BraceWrappingAfterEnum text = by_word (λ v. record style { brace_wrapping_after_enum = v }) (value_in bool_words text) (λ v. is_in_range (record style { brace_wrapping_after_enum = v }) (ranges_of style range))
with_value-IsInRange style range Key.BraceWrappingAfterExternBlock text = by_word (λ v. record style { brace_wrapping_after_extern_block = v }) (value_in bool_words text) (λ v. is_in_range (record style { brace_wrapping_after_extern_block = v }) (ranges_of style range))
with_value-IsInRange style range Key.BraceWrappingAfterFunction text = by_word (λ v. record style { brace_wrapping_after_function = v }) (value_in bool_words text) (λ v. is_in_range (record style { brace_wrapping_after_function = v }) (ranges_of style range))
with_value-IsInRange style range Key.BraceWrappingAfterStruct text = by_word (λ v. record style { brace_wrapping_after_struct = v }) (value_in bool_words text) (λ v. is_in_range (record style { brace_wrapping_after_struct = v }) (ranges_of style range))
with_value-IsInRange style range Key.BraceWrappingAfterUnion text = by_word (λ v. record style { brace_wrapping_after_union = v }) (value_in bool_words text) (λ v. is_in_range (record style { brace_wrapping_after_union = v }) (ranges_of style range))
with_value-IsInRange style range Key.BraceWrappingBeforeElse text = by_word (λ v. record style { brace_wrapping_before_else = v }) (value_in bool_words text) (λ v. is_in_range (record style { brace_wrapping_before_else = v }) (ranges_of style range))
with_value-IsInRange style range Key.BraceWrappingBeforeWhile text = by_word (λ v. record style { brace_wrapping_before_while = v }) (value_in bool_words text) (λ v. is_in_range (record style { brace_wrapping_before_while = v }) (ranges_of style range))
with_value-IsInRange style range Key.BraceWrappingAfterControlStatement text = by_word (λ v. record style { brace_wrapping_after_control_statement = v }) (value_in brace_wrapping_after_control_statement_words text) (λ v. is_in_range (record style { brace_wrapping_after_control_statement = v }) (ranges_of style range))
with_value-IsInRange style range Key.PointerAlignment text = by_word (λ v. record style { pointer_alignment = v }) (value_in pointer_alignment_words text) (λ v. is_in_range (record style { pointer_alignment = v }) (ranges_of style range))
with_value-IsInRange style range Key.SpaceBeforeParens text = by_word (λ v. record style { space_before_parens = v }) (value_in space_before_parens_words text) (λ v. is_in_range (record style { space_before_parens = v }) (ranges_of style range))
with_value-IsInRange style range Key.AlignAfterOpenBracket text = by_word (λ v. record style { align_after_open_bracket = v }) (value_in align_after_open_bracket_words text) (λ v. is_in_range (record style { align_after_open_bracket = v }) (ranges_of style range))
with_value-IsInRange style range Key.BinPackArguments text = by_word (λ v. record style { bin_pack_arguments = v }) (value_in bool_words text) (λ v. is_in_range (record style { bin_pack_arguments = v }) (ranges_of style range))
with_value-IsInRange style range Key.BinPackParameters text = by_word (λ v. record style { bin_pack_parameters = v }) (value_in bool_words text) (λ v. is_in_range (record style { bin_pack_parameters = v }) (ranges_of style range))
with_value-IsInRange style range Key.BreakBeforeBinaryOperators text = by_word (λ v. record style { break_before_binary_operators = v }) (value_in break_before_binary_operators_words text) (λ v. is_in_range (record style { break_before_binary_operators = v }) (ranges_of style range))
with_value-IsInRange style range Key.BreakBeforeTernaryOperators text = by_word (λ v. record style { break_before_ternary_operators = v }) (value_in bool_words text) (λ v. is_in_range (record style { break_before_ternary_operators = v }) (ranges_of style range))
with_value-IsInRange style range Key.MaxEmptyLinesToKeep text = by_number (λ v. record style { max_empty_lines_to_keep = v }) 0 100 text (λ n low high. record { column_limit = range.column_limit; indent_width = range.indent_width; continuation_indent_width = range.continuation_indent_width; least_tab_width = range.least_tab_width; tab_width = range.tab_width; max_empty_lines_to_keep = high; spaces_before_trailing_comments = range.spaces_before_trailing_comments; penalty_break_assignment = range.penalty_break_assignment; penalty_break_before_first_call_parameter = range.penalty_break_before_first_call_parameter; penalty_break_open_parenthesis = range.penalty_break_open_parenthesis; penalty_excess_character = range.penalty_excess_character; penalty_return_type_on_its_own_line = range.penalty_return_type_on_its_own_line })
with_value-IsInRange style range Key.KeepEmptyLinesAtTheStartOfBlocks text = by_word (λ v. record style { keep_empty_lines_at_the_start_of_blocks = v }) (value_in bool_words text) (λ v. is_in_range (record style { keep_empty_lines_at_the_start_of_blocks = v }) (ranges_of style range))
with_value-IsInRange style range Key.IndentCaseLabels text = by_word (λ v. record style { indent_case_labels = v }) (value_in bool_words text) (λ v. is_in_range (record style { indent_case_labels = v }) (ranges_of style range))
with_value-IsInRange style range Key.IndentGotoLabels text = by_word (λ v. record style { indent_goto_labels = v }) (value_in bool_words text) (λ v. is_in_range (record style { indent_goto_labels = v }) (ranges_of style range))
with_value-IsInRange style range Key.IndentPPDirectives text = by_word (λ v. record style { indent_pp_directives = v }) (value_in indent_pp_directives_words text) (λ v. is_in_range (record style { indent_pp_directives = v }) (ranges_of style range))
with_value-IsInRange style range Key.AllowShortFunctionsOnASingleLine text = by_word (λ v. record style { allow_short_functions_on_a_single_line = v }) (value_in allow_short_functions_on_a_single_line_words text) (λ v. is_in_range (record style { allow_short_functions_on_a_single_line = v }) (ranges_of style range))
with_value-IsInRange style range Key.AllowShortIfStatementsOnASingleLine text = by_word (λ v. record style { allow_short_if_statements_on_a_single_line = v }) (value_in allow_short_if_statements_on_a_single_line_words text) (λ v. is_in_range (record style { allow_short_if_statements_on_a_single_line = v }) (ranges_of style range))
with_value-IsInRange style range Key.AllowShortLoopsOnASingleLine text = by_word (λ v. record style { allow_short_loops_on_a_single_line = v }) (value_in bool_words text) (λ v. is_in_range (record style { allow_short_loops_on_a_single_line = v }) (ranges_of style range))
with_value-IsInRange style range Key.AllowShortBlocksOnASingleLine text = by_word (λ v. record style { allow_short_blocks_on_a_single_line = v }) (value_in allow_short_blocks_on_a_single_line_words text) (λ v. is_in_range (record style { allow_short_blocks_on_a_single_line = v }) (ranges_of style range))
with_value-IsInRange style range Key.AllowShortCaseLabelsOnASingleLine text = by_word (λ v. record style { allow_short_case_labels_on_a_single_line = v }) (value_in bool_words text) (λ v. is_in_range (record style { allow_short_case_labels_on_a_single_line = v }) (ranges_of style range))
with_value-IsInRange style range Key.AllowShortEnumsOnASingleLine text = by_word (λ v. record style { allow_short_enums_on_a_single_line = v }) (value_in bool_words text) (λ v. is_in_range (record style { allow_short_enums_on_a_single_line = v }) (ranges_of style range))
with_value-IsInRange style range Key.SpacesBeforeTrailingComments text = by_number (λ v. record style { spaces_before_trailing_comments = v }) 0 16 text (λ n low high. record { column_limit = range.column_limit; indent_width = range.indent_width; continuation_indent_width = range.continuation_indent_width; least_tab_width = range.least_tab_width; tab_width = range.tab_width; max_empty_lines_to_keep = range.max_empty_lines_to_keep; spaces_before_trailing_comments = high; penalty_break_assignment = range.penalty_break_assignment; penalty_break_before_first_call_parameter = range.penalty_break_before_first_call_parameter; penalty_break_open_parenthesis = range.penalty_break_open_parenthesis; penalty_excess_character = range.penalty_excess_character; penalty_return_type_on_its_own_line = range.penalty_return_type_on_its_own_line })
with_value-IsInRange style range Key.SpaceAfterCStyleCast text = by_word (λ v. record style { space_after_c_style_cast = v }) (value_in bool_words text) (λ v. is_in_range (record style { space_after_c_style_cast = v }) (ranges_of style range))
with_value-IsInRange style range Key.Cpp11BracedListStyle text = by_word (λ v. record style { cpp11_braced_list_style = v }) (value_in bool_words text) (λ v. is_in_range (record style { cpp11_braced_list_style = v }) (ranges_of style range))
with_value-IsInRange style range Key.AlignEscapedNewlines text = by_word (λ v. record style { align_escaped_newlines = v }) (value_in align_escaped_newlines_words text) (λ v. is_in_range (record style { align_escaped_newlines = v }) (ranges_of style range))
with_value-IsInRange style range Key.AlignTrailingCommentsKind text = by_word (λ v. record style { align_trailing_comments_kind = v }) (value_in align_trailing_comments_kind_words text) (λ v. is_in_range (record style { align_trailing_comments_kind = v }) (ranges_of style range))
with_value-IsInRange style range Key.LineEnding text = by_word (λ v. record style { line_ending = v }) (value_in line_ending_words text) (λ v. is_in_range (record style { line_ending = v }) (ranges_of style range))
with_value-IsInRange style range Key.InsertNewlineAtEOF text = by_word (λ v. record style { insert_newline_at_eof = v }) (value_in bool_words text) (λ v. is_in_range (record style { insert_newline_at_eof = v }) (ranges_of style range))
with_value-IsInRange style range Key.SkipMacroDefinitionBody text = by_word (λ v. record style { skip_macro_definition_body = v }) (value_in bool_words text) (λ v. is_in_range (record style { skip_macro_definition_body = v }) (ranges_of style range))
with_value-IsInRange style range Key.PenaltyBreakAssignment text = by_number (λ v. record style { penalty_break_assignment = v }) 0 100000000 text (λ n low high. record { column_limit = range.column_limit; indent_width = range.indent_width; continuation_indent_width = range.continuation_indent_width; least_tab_width = range.least_tab_width; tab_width = range.tab_width; max_empty_lines_to_keep = range.max_empty_lines_to_keep; spaces_before_trailing_comments = range.spaces_before_trailing_comments; penalty_break_assignment = high; penalty_break_before_first_call_parameter = range.penalty_break_before_first_call_parameter; penalty_break_open_parenthesis = range.penalty_break_open_parenthesis; penalty_excess_character = range.penalty_excess_character; penalty_return_type_on_its_own_line = range.penalty_return_type_on_its_own_line })
with_value-IsInRange style range Key.PenaltyBreakBeforeFirstCallParameter text = by_number (λ v. record style { penalty_break_before_first_call_parameter = v }) 0 100000000 text (λ n low high. record { column_limit = range.column_limit; indent_width = range.indent_width; continuation_indent_width = range.continuation_indent_width; least_tab_width = range.least_tab_width; tab_width = range.tab_width; max_empty_lines_to_keep = range.max_empty_lines_to_keep; spaces_before_trailing_comments = range.spaces_before_trailing_comments; penalty_break_assignment = range.penalty_break_assignment; penalty_break_before_first_call_parameter = high; penalty_break_open_parenthesis = range.penalty_break_open_parenthesis; penalty_excess_character = range.penalty_excess_character; penalty_return_type_on_its_own_line = range.penalty_return_type_on_its_own_line })
with_value-IsInRange style range Key.PenaltyBreakOpenParenthesis text = by_number (λ v. record style { penalty_break_open_parenthesis = v }) 0 100000000 text (λ n low high. record { column_limit = range.column_limit; indent_width = range.indent_width; continuation_indent_width = range.continuation_indent_width; least_tab_width = range.least_tab_width; tab_width = range.tab_width; max_empty_lines_to_keep = range.max_empty_lines_to_keep; spaces_before_trailing_comments = range.spaces_before_trailing_comments; penalty_break_assignment = range.penalty_break_assignment; penalty_break_before_first_call_parameter = range.penalty_break_before_first_call_parameter; penalty_break_open_parenthesis = high; penalty_excess_character = range.penalty_excess_character; penalty_return_type_on_its_own_line = range.penalty_return_type_on_its_own_line })
with_value-IsInRange style range Key.PenaltyExcessCharacter text = by_number (λ v. record style { penalty_excess_character = v }) 0 100000000 text (λ n low high. record { column_limit = range.column_limit; indent_width = range.indent_width; continuation_indent_width = range.continuation_indent_width; least_tab_width = range.least_tab_width; tab_width = range.tab_width; max_empty_lines_to_keep = range.max_empty_lines_to_keep; spaces_before_trailing_comments = range.spaces_before_trailing_comments; penalty_break_assignment = range.penalty_break_assignment; penalty_break_before_first_call_parameter = range.penalty_break_before_first_call_parameter; penalty_break_open_parenthesis = range.penalty_break_open_parenthesis; penalty_excess_character = high; penalty_return_type_on_its_own_line = range.penalty_return_type_on_its_own_line })
with_value-IsInRange style range Key.PenaltyReturnTypeOnItsOwnLine text = by_number (λ v. record style { penalty_return_type_on_its_own_line = v }) 0 100000000 text (λ n low high. record { column_limit = range.column_limit; indent_width = range.indent_width; continuation_indent_width = range.continuation_indent_width; least_tab_width = range.least_tab_width; tab_width = range.tab_width; max_empty_lines_to_keep = range.max_empty_lines_to_keep; spaces_before_trailing_comments = range.spaces_before_trailing_comments; penalty_break_assignment = range.penalty_break_assignment; penalty_break_before_first_call_parameter = range.penalty_break_before_first_call_parameter; penalty_break_open_parenthesis = range.penalty_break_open_parenthesis; penalty_excess_character = range.penalty_excess_character; penalty_return_type_on_its_own_line = high })
