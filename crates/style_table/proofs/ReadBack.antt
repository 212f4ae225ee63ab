-- Each value that a style writes is read back.
use Rattle.std.proofs.Common.{◌≡◌, ℕ, ◌^◌, ◌<◌, ◌≤◌, Bool, true, false, Ok, List, [], ◌∷◌, refl, ap, lit<, arith}
use Rattle.std.specs.Prelude.{decimal, fold}
use Rattle.std.specs.Str.Parse.{AllDigits, digits_value}
use Rattle.std.proofs.lemmas.Str.Parse.{IsNumeralModel}
use Rattle.std.proofs.lemmas.Fmt.{digits_decimal, digits_value-decimal, decimal_nonempty, length-decimal-le}
use Rattle.std.proofs.lemmas.Grind.{common_steps}
use Rattle.style_table.specs.declared.style.Style.{Style}
use Rattle.style_table.specs.declared.key.Key.{Key}
use Rattle.style_table.specs.Words.{value_in, bool_word, bool_words, use_tab_word, use_tab_words, break_before_braces_word, break_before_braces_words, brace_wrapping_after_control_statement_word, brace_wrapping_after_control_statement_words, pointer_alignment_word, pointer_alignment_words, space_before_parens_word, space_before_parens_words, align_after_open_bracket_word, align_after_open_bracket_words, break_before_binary_operators_word, break_before_binary_operators_words, indent_pp_directives_word, indent_pp_directives_words, allow_short_functions_on_a_single_line_word, allow_short_functions_on_a_single_line_words, allow_short_if_statements_on_a_single_line_word, allow_short_if_statements_on_a_single_line_words, allow_short_blocks_on_a_single_line_word, allow_short_blocks_on_a_single_line_words, align_escaped_newlines_word, align_escaped_newlines_words, align_trailing_comments_kind_word, align_trailing_comments_kind_words, line_ending_word, line_ending_words}
use Rattle.style_table.specs.Keys.{keys, are_digits, number_in, changed, shown, with_value}
use Rattle.style_table.specs.Range.{IsInRange}
use Rattle.style_table.specs.declared.style.UseTab.{UseTab}
use Rattle.style_table.specs.declared.style.BreakBeforeBraces.{BreakBeforeBraces}
use Rattle.style_table.specs.declared.style.BraceWrappingAfterControlStatement.{BraceWrappingAfterControlStatement}
use Rattle.style_table.specs.declared.style.PointerAlignment.{PointerAlignment}
use Rattle.style_table.specs.declared.style.SpaceBeforeParens.{SpaceBeforeParens}
use Rattle.style_table.specs.declared.style.AlignAfterOpenBracket.{AlignAfterOpenBracket}
use Rattle.style_table.specs.declared.style.BreakBeforeBinaryOperators.{BreakBeforeBinaryOperators}
use Rattle.style_table.specs.declared.style.IndentPPDirectives.{IndentPPDirectives}
use Rattle.style_table.specs.declared.style.AllowShortFunctionsOnASingleLine.{AllowShortFunctionsOnASingleLine}
use Rattle.style_table.specs.declared.style.AllowShortIfStatementsOnASingleLine.{AllowShortIfStatementsOnASingleLine}
use Rattle.style_table.specs.declared.style.AllowShortBlocksOnASingleLine.{AllowShortBlocksOnASingleLine}
use Rattle.style_table.specs.declared.style.AlignEscapedNewlines.{AlignEscapedNewlines}
use Rattle.style_table.specs.declared.style.AlignTrailingCommentsKind.{AlignTrailingCommentsKind}
use Rattle.style_table.specs.declared.style.LineEnding.{LineEnding}

decimal_model : IsNumeralModel (AllDigits 10) (digits_value 10)
decimal_model = record {
  to = λ ds digits. digits;
  from = λ ds digits. digits;
  same = λ ds digits. refl;
}

all-are_digits : (ds : List ℕ) → AllDigits 10 ds → are_digits ds ≡ true
all-are_digits [] digits = refl
all-are_digits (d ∷ ds) digits = grind (arith, digits.0, all-are_digits ds digits.1)

-- a number in its range is read back
pub number_in-decimal : (least most n : ℕ) → least ≤ n → n ≤ most → most < 10 ^ 9 → number_in least most (decimal n) ≡ Ok n
number_in-decimal least most n low high bound =
    let small : n < 10 ^ 9 = omega arith in
    let fits : n < 2 ^ 64 = omega arith in
    let some = decimal_nonempty n fits in
    let few = length-decimal-le 9 n (lit< tt) small fits in
    let digits = all-are_digits (decimal n) (digits_decimal decimal_model n fits) in
    let value = digits_value-decimal decimal_model n fits in
    grind (arith, common_steps, some, few, digits, value)

bool-read_back : (value : Bool) → value_in bool_words (bool_word value) ≡ Ok value
bool-read_back true = refl
bool-read_back false = refl

use_tab-read_back : (value : UseTab) → value_in use_tab_words (use_tab_word value) ≡ Ok value
use_tab-read_back UseTab.Never = refl
use_tab-read_back UseTab.ForIndentation = refl
use_tab-read_back UseTab.ForContinuationAndIndentation = refl
use_tab-read_back UseTab.AlignWithSpaces = refl
use_tab-read_back UseTab.Always = refl

break_before_braces-read_back : (value : BreakBeforeBraces) → value_in break_before_braces_words (break_before_braces_word value) ≡ Ok value
break_before_braces-read_back BreakBeforeBraces.Attach = refl
break_before_braces-read_back BreakBeforeBraces.Linux = refl
break_before_braces-read_back BreakBeforeBraces.Mozilla = refl
break_before_braces-read_back BreakBeforeBraces.Stroustrup = refl
break_before_braces-read_back BreakBeforeBraces.Allman = refl
break_before_braces-read_back BreakBeforeBraces.WebKit = refl
break_before_braces-read_back BreakBeforeBraces.Custom = refl

brace_wrapping_after_control_statement-read_back : (value : BraceWrappingAfterControlStatement) → value_in brace_wrapping_after_control_statement_words (brace_wrapping_after_control_statement_word value) ≡ Ok value
brace_wrapping_after_control_statement-read_back BraceWrappingAfterControlStatement.Never = refl
brace_wrapping_after_control_statement-read_back BraceWrappingAfterControlStatement.Always = refl

pointer_alignment-read_back : (value : PointerAlignment) → value_in pointer_alignment_words (pointer_alignment_word value) ≡ Ok value
pointer_alignment-read_back PointerAlignment.Right = refl
pointer_alignment-read_back PointerAlignment.Left = refl
pointer_alignment-read_back PointerAlignment.Middle = refl

space_before_parens-read_back : (value : SpaceBeforeParens) → value_in space_before_parens_words (space_before_parens_word value) ≡ Ok value
space_before_parens-read_back SpaceBeforeParens.ControlStatements = refl
space_before_parens-read_back SpaceBeforeParens.Never = refl
space_before_parens-read_back SpaceBeforeParens.Always = refl

align_after_open_bracket-read_back : (value : AlignAfterOpenBracket) → value_in align_after_open_bracket_words (align_after_open_bracket_word value) ≡ Ok value
align_after_open_bracket-read_back AlignAfterOpenBracket.Align = refl
align_after_open_bracket-read_back AlignAfterOpenBracket.DontAlign = refl
align_after_open_bracket-read_back AlignAfterOpenBracket.AlwaysBreak = refl

break_before_binary_operators-read_back : (value : BreakBeforeBinaryOperators) → value_in break_before_binary_operators_words (break_before_binary_operators_word value) ≡ Ok value
break_before_binary_operators-read_back BreakBeforeBinaryOperators.None = refl
break_before_binary_operators-read_back BreakBeforeBinaryOperators.NonAssignment = refl
break_before_binary_operators-read_back BreakBeforeBinaryOperators.All = refl

indent_pp_directives-read_back : (value : IndentPPDirectives) → value_in indent_pp_directives_words (indent_pp_directives_word value) ≡ Ok value
indent_pp_directives-read_back IndentPPDirectives.None = refl
indent_pp_directives-read_back IndentPPDirectives.AfterHash = refl
indent_pp_directives-read_back IndentPPDirectives.BeforeHash = refl

allow_short_functions_on_a_single_line-read_back : (value : AllowShortFunctionsOnASingleLine) → value_in allow_short_functions_on_a_single_line_words (allow_short_functions_on_a_single_line_word value) ≡ Ok value
allow_short_functions_on_a_single_line-read_back AllowShortFunctionsOnASingleLine.All = refl
allow_short_functions_on_a_single_line-read_back AllowShortFunctionsOnASingleLine.None = refl
allow_short_functions_on_a_single_line-read_back AllowShortFunctionsOnASingleLine.InlineOnly = refl
allow_short_functions_on_a_single_line-read_back AllowShortFunctionsOnASingleLine.Empty = refl
allow_short_functions_on_a_single_line-read_back AllowShortFunctionsOnASingleLine.Inline = refl

allow_short_if_statements_on_a_single_line-read_back : (value : AllowShortIfStatementsOnASingleLine) → value_in allow_short_if_statements_on_a_single_line_words (allow_short_if_statements_on_a_single_line_word value) ≡ Ok value
allow_short_if_statements_on_a_single_line-read_back AllowShortIfStatementsOnASingleLine.Never = refl
allow_short_if_statements_on_a_single_line-read_back AllowShortIfStatementsOnASingleLine.WithoutElse = refl
allow_short_if_statements_on_a_single_line-read_back AllowShortIfStatementsOnASingleLine.OnlyFirstIf = refl
allow_short_if_statements_on_a_single_line-read_back AllowShortIfStatementsOnASingleLine.AllIfsAndElse = refl

allow_short_blocks_on_a_single_line-read_back : (value : AllowShortBlocksOnASingleLine) → value_in allow_short_blocks_on_a_single_line_words (allow_short_blocks_on_a_single_line_word value) ≡ Ok value
allow_short_blocks_on_a_single_line-read_back AllowShortBlocksOnASingleLine.Never = refl
allow_short_blocks_on_a_single_line-read_back AllowShortBlocksOnASingleLine.Empty = refl
allow_short_blocks_on_a_single_line-read_back AllowShortBlocksOnASingleLine.Always = refl

align_escaped_newlines-read_back : (value : AlignEscapedNewlines) → value_in align_escaped_newlines_words (align_escaped_newlines_word value) ≡ Ok value
align_escaped_newlines-read_back AlignEscapedNewlines.Right = refl
align_escaped_newlines-read_back AlignEscapedNewlines.Left = refl
align_escaped_newlines-read_back AlignEscapedNewlines.DontAlign = refl

align_trailing_comments_kind-read_back : (value : AlignTrailingCommentsKind) → value_in align_trailing_comments_kind_words (align_trailing_comments_kind_word value) ≡ Ok value
align_trailing_comments_kind-read_back AlignTrailingCommentsKind.Always = refl
align_trailing_comments_kind-read_back AlignTrailingCommentsKind.Never = refl

line_ending-read_back : (value : LineEnding) → value_in line_ending_words (line_ending_word value) ≡ Ok value
line_ending-read_back LineEnding.DeriveLF = refl
line_ending-read_back LineEnding.DeriveCRLF = refl
line_ending-read_back LineEnding.LF = refl
line_ending-read_back LineEnding.CRLF = refl

-- the base with the style's value of a key
abbrev pub copied : Style → Style → Key → Style
copied style base Key.ColumnLimit = record base { column_limit = style.column_limit }
copied style base Key.IndentWidth = record base { indent_width = style.indent_width }
copied style base Key.ContinuationIndentWidth = record base { continuation_indent_width = style.continuation_indent_width }
copied style base Key.TabWidth = record base { tab_width = style.tab_width }
copied style base Key.UseTab = record base { use_tab = style.use_tab }
copied style base Key.BreakBeforeBraces = record base { break_before_braces = style.break_before_braces }
copied style base Key.BraceWrappingAfterCaseLabel = record base { brace_wrapping_after_case_label = style.brace_wrapping_after_case_label }
copied style base Key.BraceWrappingAfterEnum = record base { brace_wrapping_after_enum = style.brace_wrapping_after_enum }
copied style base Key.BraceWrappingAfterExternBlock = record base { brace_wrapping_after_extern_block = style.brace_wrapping_after_extern_block }
copied style base Key.BraceWrappingAfterFunction = record base { brace_wrapping_after_function = style.brace_wrapping_after_function }
copied style base Key.BraceWrappingAfterStruct = record base { brace_wrapping_after_struct = style.brace_wrapping_after_struct }
copied style base Key.BraceWrappingAfterUnion = record base { brace_wrapping_after_union = style.brace_wrapping_after_union }
copied style base Key.BraceWrappingBeforeElse = record base { brace_wrapping_before_else = style.brace_wrapping_before_else }
copied style base Key.BraceWrappingBeforeWhile = record base { brace_wrapping_before_while = style.brace_wrapping_before_while }
copied style base Key.BraceWrappingAfterControlStatement = record base { brace_wrapping_after_control_statement = style.brace_wrapping_after_control_statement }
copied style base Key.PointerAlignment = record base { pointer_alignment = style.pointer_alignment }
copied style base Key.SpaceBeforeParens = record base { space_before_parens = style.space_before_parens }
copied style base Key.AlignAfterOpenBracket = record base { align_after_open_bracket = style.align_after_open_bracket }
copied style base Key.BinPackArguments = record base { bin_pack_arguments = style.bin_pack_arguments }
copied style base Key.BinPackParameters = record base { bin_pack_parameters = style.bin_pack_parameters }
copied style base Key.BreakBeforeBinaryOperators = record base { break_before_binary_operators = style.break_before_binary_operators }
copied style base Key.BreakBeforeTernaryOperators = record base { break_before_ternary_operators = style.break_before_ternary_operators }
copied style base Key.MaxEmptyLinesToKeep = record base { max_empty_lines_to_keep = style.max_empty_lines_to_keep }
copied style base Key.KeepEmptyLinesAtTheStartOfBlocks = record base { keep_empty_lines_at_the_start_of_blocks = style.keep_empty_lines_at_the_start_of_blocks }
copied style base Key.IndentCaseLabels = record base { indent_case_labels = style.indent_case_labels }
copied style base Key.IndentGotoLabels = record base { indent_goto_labels = style.indent_goto_labels }
copied style base Key.IndentPPDirectives = record base { indent_pp_directives = style.indent_pp_directives }
copied style base Key.AllowShortFunctionsOnASingleLine = record base { allow_short_functions_on_a_single_line = style.allow_short_functions_on_a_single_line }
copied style base Key.AllowShortIfStatementsOnASingleLine = record base { allow_short_if_statements_on_a_single_line = style.allow_short_if_statements_on_a_single_line }
copied style base Key.AllowShortLoopsOnASingleLine = record base { allow_short_loops_on_a_single_line = style.allow_short_loops_on_a_single_line }
copied style base Key.AllowShortBlocksOnASingleLine = record base { allow_short_blocks_on_a_single_line = style.allow_short_blocks_on_a_single_line }
copied style base Key.AllowShortCaseLabelsOnASingleLine = record base { allow_short_case_labels_on_a_single_line = style.allow_short_case_labels_on_a_single_line }
copied style base Key.AllowShortEnumsOnASingleLine = record base { allow_short_enums_on_a_single_line = style.allow_short_enums_on_a_single_line }
copied style base Key.SpacesBeforeTrailingComments = record base { spaces_before_trailing_comments = style.spaces_before_trailing_comments }
copied style base Key.SpaceAfterCStyleCast = record base { space_after_c_style_cast = style.space_after_c_style_cast }
copied style base Key.Cpp11BracedListStyle = record base { cpp11_braced_list_style = style.cpp11_braced_list_style }
copied style base Key.AlignEscapedNewlines = record base { align_escaped_newlines = style.align_escaped_newlines }
copied style base Key.AlignTrailingCommentsKind = record base { align_trailing_comments_kind = style.align_trailing_comments_kind }
copied style base Key.LineEnding = record base { line_ending = style.line_ending }
copied style base Key.InsertNewlineAtEOF = record base { insert_newline_at_eof = style.insert_newline_at_eof }
copied style base Key.SkipMacroDefinitionBody = record base { skip_macro_definition_body = style.skip_macro_definition_body }
copied style base Key.PenaltyBreakAssignment = record base { penalty_break_assignment = style.penalty_break_assignment }
copied style base Key.PenaltyBreakBeforeFirstCallParameter = record base { penalty_break_before_first_call_parameter = style.penalty_break_before_first_call_parameter }
copied style base Key.PenaltyBreakOpenParenthesis = record base { penalty_break_open_parenthesis = style.penalty_break_open_parenthesis }
copied style base Key.PenaltyExcessCharacter = record base { penalty_excess_character = style.penalty_excess_character }
copied style base Key.PenaltyReturnTypeOnItsOwnLine = record base { penalty_return_type_on_its_own_line = style.penalty_return_type_on_its_own_line }

-- what is shown of a style is read back, whatever the base is
pub with_value-shown : (style base : Style) → IsInRange style → (key : Key)
    → with_value base key (shown style key) ≡ Ok (copied style base key)
with_value-shown style base range Key.ColumnLimit = ap (changed (λ v. record base { column_limit = v })) (number_in-decimal 0 1000 style.column_limit (omega arith) range.column_limit (lit< tt))
with_value-shown style base range Key.IndentWidth = ap (changed (λ v. record base { indent_width = v })) (number_in-decimal 0 16 style.indent_width (omega arith) range.indent_width (lit< tt))
with_value-shown style base range Key.ContinuationIndentWidth = ap (changed (λ v. record base { continuation_indent_width = v })) (number_in-decimal 0 16 style.continuation_indent_width (omega arith) range.continuation_indent_width (lit< tt))
with_value-shown style base range Key.TabWidth = ap (changed (λ v. record base { tab_width = v })) (number_in-decimal 1 16 style.tab_width range.least_tab_width range.tab_width (lit< tt))
with_value-shown style base range Key.UseTab = ap (λ read. changed (λ v. record base { use_tab = v }) read) (use_tab-read_back style.use_tab)
with_value-shown style base range Key.BreakBeforeBraces = ap (λ read. changed (λ v. record base { break_before_braces = v }) read) (break_before_braces-read_back style.break_before_braces)
with_value-shown style base range Key.BraceWrappingAfterCaseLabel = ap (λ read. changed (λ v. record base { brace_wrapping_after_case_label = v }) read) (bool-read_back style.brace_wrapping_after_case_label)
with_value-shown style base range Key.BraceWrappingAfterEnum = ap (λ read. changed (λ v. record base { brace_wrapping_after_enum = v }) read) (bool-read_back style.brace_wrapping_after_enum)
with_value-shown style base range Key.BraceWrappingAfterExternBlock = ap (λ read. changed (λ v. record base { brace_wrapping_after_extern_block = v }) read) (bool-read_back style.brace_wrapping_after_extern_block)
with_value-shown style base range Key.BraceWrappingAfterFunction = ap (λ read. changed (λ v. record base { brace_wrapping_after_function = v }) read) (bool-read_back style.brace_wrapping_after_function)
with_value-shown style base range Key.BraceWrappingAfterStruct = ap (λ read. changed (λ v. record base { brace_wrapping_after_struct = v }) read) (bool-read_back style.brace_wrapping_after_struct)
with_value-shown style base range Key.BraceWrappingAfterUnion = ap (λ read. changed (λ v. record base { brace_wrapping_after_union = v }) read) (bool-read_back style.brace_wrapping_after_union)
with_value-shown style base range Key.BraceWrappingBeforeElse = ap (λ read. changed (λ v. record base { brace_wrapping_before_else = v }) read) (bool-read_back style.brace_wrapping_before_else)
with_value-shown style base range Key.BraceWrappingBeforeWhile = ap (λ read. changed (λ v. record base { brace_wrapping_before_while = v }) read) (bool-read_back style.brace_wrapping_before_while)
with_value-shown style base range Key.BraceWrappingAfterControlStatement = ap (λ read. changed (λ v. record base { brace_wrapping_after_control_statement = v }) read) (brace_wrapping_after_control_statement-read_back style.brace_wrapping_after_control_statement)
with_value-shown style base range Key.PointerAlignment = ap (λ read. changed (λ v. record base { pointer_alignment = v }) read) (pointer_alignment-read_back style.pointer_alignment)
with_value-shown style base range Key.SpaceBeforeParens = ap (λ read. changed (λ v. record base { space_before_parens = v }) read) (space_before_parens-read_back style.space_before_parens)
with_value-shown style base range Key.AlignAfterOpenBracket = ap (λ read. changed (λ v. record base { align_after_open_bracket = v }) read) (align_after_open_bracket-read_back style.align_after_open_bracket)
with_value-shown style base range Key.BinPackArguments = ap (λ read. changed (λ v. record base { bin_pack_arguments = v }) read) (bool-read_back style.bin_pack_arguments)
with_value-shown style base range Key.BinPackParameters = ap (λ read. changed (λ v. record base { bin_pack_parameters = v }) read) (bool-read_back style.bin_pack_parameters)
with_value-shown style base range Key.BreakBeforeBinaryOperators = ap (λ read. changed (λ v. record base { break_before_binary_operators = v }) read) (break_before_binary_operators-read_back style.break_before_binary_operators)
with_value-shown style base range Key.BreakBeforeTernaryOperators = ap (λ read. changed (λ v. record base { break_before_ternary_operators = v }) read) (bool-read_back style.break_before_ternary_operators)
with_value-shown style base range Key.MaxEmptyLinesToKeep = ap (changed (λ v. record base { max_empty_lines_to_keep = v })) (number_in-decimal 0 100 style.max_empty_lines_to_keep (omega arith) range.max_empty_lines_to_keep (lit< tt))
with_value-shown style base range Key.KeepEmptyLinesAtTheStartOfBlocks = ap (λ read. changed (λ v. record base { keep_empty_lines_at_the_start_of_blocks = v }) read) (bool-read_back style.keep_empty_lines_at_the_start_of_blocks)
with_value-shown style base range Key.IndentCaseLabels = ap (λ read. changed (λ v. record base { indent_case_labels = v }) read) (bool-read_back style.indent_case_labels)
with_value-shown style base range Key.IndentGotoLabels = ap (λ read. changed (λ v. record base { indent_goto_labels = v }) read) (bool-read_back style.indent_goto_labels)
with_value-shown style base range Key.IndentPPDirectives = ap (λ read. changed (λ v. record base { indent_pp_directives = v }) read) (indent_pp_directives-read_back style.indent_pp_directives)
with_value-shown style base range Key.AllowShortFunctionsOnASingleLine = ap (λ read. changed (λ v. record base { allow_short_functions_on_a_single_line = v }) read) (allow_short_functions_on_a_single_line-read_back style.allow_short_functions_on_a_single_line)
with_value-shown style base range Key.AllowShortIfStatementsOnASingleLine = ap (λ read. changed (λ v. record base { allow_short_if_statements_on_a_single_line = v }) read) (allow_short_if_statements_on_a_single_line-read_back style.allow_short_if_statements_on_a_single_line)
with_value-shown style base range Key.AllowShortLoopsOnASingleLine = ap (λ read. changed (λ v. record base { allow_short_loops_on_a_single_line = v }) read) (bool-read_back style.allow_short_loops_on_a_single_line)
with_value-shown style base range Key.AllowShortBlocksOnASingleLine = ap (λ read. changed (λ v. record base { allow_short_blocks_on_a_single_line = v }) read) (allow_short_blocks_on_a_single_line-read_back style.allow_short_blocks_on_a_single_line)
with_value-shown style base range Key.AllowShortCaseLabelsOnASingleLine = ap (λ read. changed (λ v. record base { allow_short_case_labels_on_a_single_line = v }) read) (bool-read_back style.allow_short_case_labels_on_a_single_line)
with_value-shown style base range Key.AllowShortEnumsOnASingleLine = ap (λ read. changed (λ v. record base { allow_short_enums_on_a_single_line = v }) read) (bool-read_back style.allow_short_enums_on_a_single_line)
with_value-shown style base range Key.SpacesBeforeTrailingComments = ap (changed (λ v. record base { spaces_before_trailing_comments = v })) (number_in-decimal 0 16 style.spaces_before_trailing_comments (omega arith) range.spaces_before_trailing_comments (lit< tt))
with_value-shown style base range Key.SpaceAfterCStyleCast = ap (λ read. changed (λ v. record base { space_after_c_style_cast = v }) read) (bool-read_back style.space_after_c_style_cast)
with_value-shown style base range Key.Cpp11BracedListStyle = ap (λ read. changed (λ v. record base { cpp11_braced_list_style = v }) read) (bool-read_back style.cpp11_braced_list_style)
with_value-shown style base range Key.AlignEscapedNewlines = ap (λ read. changed (λ v. record base { align_escaped_newlines = v }) read) (align_escaped_newlines-read_back style.align_escaped_newlines)
with_value-shown style base range Key.AlignTrailingCommentsKind = ap (λ read. changed (λ v. record base { align_trailing_comments_kind = v }) read) (align_trailing_comments_kind-read_back style.align_trailing_comments_kind)
with_value-shown style base range Key.LineEnding = ap (λ read. changed (λ v. record base { line_ending = v }) read) (line_ending-read_back style.line_ending)
with_value-shown style base range Key.InsertNewlineAtEOF = ap (λ read. changed (λ v. record base { insert_newline_at_eof = v }) read) (bool-read_back style.insert_newline_at_eof)
with_value-shown style base range Key.SkipMacroDefinitionBody = ap (λ read. changed (λ v. record base { skip_macro_definition_body = v }) read) (bool-read_back style.skip_macro_definition_body)
with_value-shown style base range Key.PenaltyBreakAssignment = ap (changed (λ v. record base { penalty_break_assignment = v })) (number_in-decimal 0 100000000 style.penalty_break_assignment (omega arith) range.penalty_break_assignment (lit< tt))
with_value-shown style base range Key.PenaltyBreakBeforeFirstCallParameter = ap (changed (λ v. record base { penalty_break_before_first_call_parameter = v })) (number_in-decimal 0 100000000 style.penalty_break_before_first_call_parameter (omega arith) range.penalty_break_before_first_call_parameter (lit< tt))
with_value-shown style base range Key.PenaltyBreakOpenParenthesis = ap (changed (λ v. record base { penalty_break_open_parenthesis = v })) (number_in-decimal 0 100000000 style.penalty_break_open_parenthesis (omega arith) range.penalty_break_open_parenthesis (lit< tt))
with_value-shown style base range Key.PenaltyExcessCharacter = ap (changed (λ v. record base { penalty_excess_character = v })) (number_in-decimal 0 100000000 style.penalty_excess_character (omega arith) range.penalty_excess_character (lit< tt))
with_value-shown style base range Key.PenaltyReturnTypeOnItsOwnLine = ap (changed (λ v. record base { penalty_return_type_on_its_own_line = v })) (number_in-decimal 0 100000000 style.penalty_return_type_on_its_own_line (omega arith) range.penalty_return_type_on_its_own_line (lit< tt))

-- the values of all keys make the style
pub copied-all : (style base : Style) → fold (copied style) base keys ≡ style
copied-all style base = refl
