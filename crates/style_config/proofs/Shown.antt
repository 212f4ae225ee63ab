-- Each value that a style writes is a word of letters and digits.
use Rattle.std.proofs.Common.{◌≡◌, ◌≤◌, ◌<◌, ◌^◌, ◌&&◌, ℕ, Bool, true, false, List, [], ◌∷◌, length, refl, arith, nat_lt, lit≤}
use Rattle.std.specs.Prelude.{decimal}
use Rattle.std.specs.List.{list_all}
use Rattle.std.specs.Str.Parse.{AllDigits, digits_value}
use Rattle.std.proofs.lemmas.Str.Parse.{IsNumeralModel}
use Rattle.std.proofs.lemmas.Fmt.{digits_decimal, decimal_nonempty}
use Rattle.style_table.specs.declared.style.Style.{Style}
use Rattle.style_table.specs.declared.key.Key.{Key}
use Rattle.style_table.specs.Keys.{shown}
use Rattle.style_table.specs.Range.{IsInRange}
use Rattle.style_table.specs.Words.{use_tab_word, break_before_braces_word, bool_word, brace_wrapping_after_control_statement_word, pointer_alignment_word, space_before_parens_word, align_after_open_bracket_word, break_before_binary_operators_word, indent_pp_directives_word, allow_short_functions_on_a_single_line_word, allow_short_if_statements_on_a_single_line_word, allow_short_blocks_on_a_single_line_word, align_escaped_newlines_word, align_trailing_comments_kind_word, line_ending_word}
use Rattle.style_table.specs.declared.style.UseTab.{UseTab}
use Rattle.style_table.specs.declared.style.BreakBeforeBraces.{BreakBeforeBraces}
use Rattle.style_table.specs.declared.style.BraceWrappingAfterControlStatement.{BraceWrappingAfterControlStatement}
use Rattle.style_table.specs.declared.style.PointerAlignment.{PointerAlignment}
use Rattle.style_table.specs.declared.style.SpaceBeforeParens.{SpaceBeforeParens}
use Rattle.style_table.specs.declared.style.AlignAfterOpenBracket.{AlignAfterOpenBracket}
use Rattle.style_table.specs.declared.style.BreakBeforeBinaryOperators.{BreakBeforeBinaryOperators}
use Rattle.style_table.specs.declared.style.IndentPPDirectives.{IndentPPDirectives}
use Rattle.style_table.specs.declared.style.AllowShortFunctionsOnASingleLine.{AllowShortFunctionsOnASingleLine}
use Rattle.style_table.specs.declared.style.AllowShortIfStatementsOnASingleLine.{AllowShortIfStatementsOnASingleLine}
use Rattle.style_table.specs.declared.style.AllowShortBlocksOnASingleLine.{AllowShortBlocksOnASingleLine}
use Rattle.style_table.specs.declared.style.AlignEscapedNewlines.{AlignEscapedNewlines}
use Rattle.style_table.specs.declared.style.AlignTrailingCommentsKind.{AlignTrailingCommentsKind}
use Rattle.style_table.specs.declared.style.LineEnding.{LineEnding}
use Rattle.style_config.specs.Texts.{is_key_byte}

-- one letter or digit or more
abbrev pub is_word : List ℕ → Bool
is_word text = list_all is_key_byte text && nat_lt 0 (length text)

decimal_model : IsNumeralModel (AllDigits 10) (digits_value 10)
decimal_model = record {
  to = λ ds digits. digits;
  from = λ ds digits. digits;
  same = λ ds digits. refl;
}

digits_are_key_bytes : (ds : List ℕ) → AllDigits 10 ds → list_all is_key_byte ds ≡ true
digits_are_key_bytes [] digits = refl
digits_are_key_bytes (d ∷ ds) digits = grind (arith, digits.0, digits_are_key_bytes ds digits.1)

number-word : (n most : ℕ) → n ≤ most → most ≤ 100000000 → is_word (decimal n) ≡ true
number-word n most low bound =
    let fits : n < 2 ^ 64 = omega (arith, low, bound) in
    let some = decimal_nonempty n fits in
    let digits = digits_are_key_bytes (decimal n) (digits_decimal decimal_model n fits) in
    grind (arith, some, digits)

bool_word-word : (value : Bool) → is_word (bool_word value) ≡ true
bool_word-word true = refl
bool_word-word false = refl

use_tab_word-word : (value : UseTab) → is_word (use_tab_word value) ≡ true
use_tab_word-word UseTab.Never = refl
use_tab_word-word UseTab.ForIndentation = refl
use_tab_word-word UseTab.ForContinuationAndIndentation = refl
use_tab_word-word UseTab.AlignWithSpaces = refl
use_tab_word-word UseTab.Always = refl

break_before_braces_word-word : (value : BreakBeforeBraces) → is_word (break_before_braces_word value) ≡ true
break_before_braces_word-word BreakBeforeBraces.Attach = refl
break_before_braces_word-word BreakBeforeBraces.Linux = refl
break_before_braces_word-word BreakBeforeBraces.Mozilla = refl
break_before_braces_word-word BreakBeforeBraces.Stroustrup = refl
break_before_braces_word-word BreakBeforeBraces.Allman = refl
break_before_braces_word-word BreakBeforeBraces.WebKit = refl
break_before_braces_word-word BreakBeforeBraces.Custom = refl

brace_wrapping_after_control_statement_word-word : (value : BraceWrappingAfterControlStatement) → is_word (brace_wrapping_after_control_statement_word value) ≡ true
brace_wrapping_after_control_statement_word-word BraceWrappingAfterControlStatement.Never = refl
brace_wrapping_after_control_statement_word-word BraceWrappingAfterControlStatement.Always = refl

pointer_alignment_word-word : (value : PointerAlignment) → is_word (pointer_alignment_word value) ≡ true
pointer_alignment_word-word PointerAlignment.Right = refl
pointer_alignment_word-word PointerAlignment.Left = refl
pointer_alignment_word-word PointerAlignment.Middle = refl

space_before_parens_word-word : (value : SpaceBeforeParens) → is_word (space_before_parens_word value) ≡ true
space_before_parens_word-word SpaceBeforeParens.ControlStatements = refl
space_before_parens_word-word SpaceBeforeParens.Never = refl
space_before_parens_word-word SpaceBeforeParens.Always = refl

align_after_open_bracket_word-word : (value : AlignAfterOpenBracket) → is_word (align_after_open_bracket_word value) ≡ true
align_after_open_bracket_word-word AlignAfterOpenBracket.Align = refl
align_after_open_bracket_word-word AlignAfterOpenBracket.DontAlign = refl
align_after_open_bracket_word-word AlignAfterOpenBracket.AlwaysBreak = refl

break_before_binary_operators_word-word : (value : BreakBeforeBinaryOperators) → is_word (break_before_binary_operators_word value) ≡ true
break_before_binary_operators_word-word BreakBeforeBinaryOperators.None = refl
break_before_binary_operators_word-word BreakBeforeBinaryOperators.NonAssignment = refl
break_before_binary_operators_word-word BreakBeforeBinaryOperators.All = refl

indent_pp_directives_word-word : (value : IndentPPDirectives) → is_word (indent_pp_directives_word value) ≡ true
indent_pp_directives_word-word IndentPPDirectives.None = refl
indent_pp_directives_word-word IndentPPDirectives.AfterHash = refl
indent_pp_directives_word-word IndentPPDirectives.BeforeHash = refl

allow_short_functions_on_a_single_line_word-word : (value : AllowShortFunctionsOnASingleLine) → is_word (allow_short_functions_on_a_single_line_word value) ≡ true
allow_short_functions_on_a_single_line_word-word AllowShortFunctionsOnASingleLine.All = refl
allow_short_functions_on_a_single_line_word-word AllowShortFunctionsOnASingleLine.None = refl
allow_short_functions_on_a_single_line_word-word AllowShortFunctionsOnASingleLine.InlineOnly = refl
allow_short_functions_on_a_single_line_word-word AllowShortFunctionsOnASingleLine.Empty = refl
allow_short_functions_on_a_single_line_word-word AllowShortFunctionsOnASingleLine.Inline = refl

allow_short_if_statements_on_a_single_line_word-word : (value : AllowShortIfStatementsOnASingleLine) → is_word (allow_short_if_statements_on_a_single_line_word value) ≡ true
allow_short_if_statements_on_a_single_line_word-word AllowShortIfStatementsOnASingleLine.Never = refl
allow_short_if_statements_on_a_single_line_word-word AllowShortIfStatementsOnASingleLine.WithoutElse = refl
allow_short_if_statements_on_a_single_line_word-word AllowShortIfStatementsOnASingleLine.OnlyFirstIf = refl
allow_short_if_statements_on_a_single_line_word-word AllowShortIfStatementsOnASingleLine.AllIfsAndElse = refl

allow_short_blocks_on_a_single_line_word-word : (value : AllowShortBlocksOnASingleLine) → is_word (allow_short_blocks_on_a_single_line_word value) ≡ true
allow_short_blocks_on_a_single_line_word-word AllowShortBlocksOnASingleLine.Never = refl
allow_short_blocks_on_a_single_line_word-word AllowShortBlocksOnASingleLine.Empty = refl
allow_short_blocks_on_a_single_line_word-word AllowShortBlocksOnASingleLine.Always = refl

align_escaped_newlines_word-word : (value : AlignEscapedNewlines) → is_word (align_escaped_newlines_word value) ≡ true
align_escaped_newlines_word-word AlignEscapedNewlines.Right = refl
align_escaped_newlines_word-word AlignEscapedNewlines.Left = refl
align_escaped_newlines_word-word AlignEscapedNewlines.DontAlign = refl

align_trailing_comments_kind_word-word : (value : AlignTrailingCommentsKind) → is_word (align_trailing_comments_kind_word value) ≡ true
align_trailing_comments_kind_word-word AlignTrailingCommentsKind.Always = refl
align_trailing_comments_kind_word-word AlignTrailingCommentsKind.Never = refl

line_ending_word-word : (value : LineEnding) → is_word (line_ending_word value) ≡ true
line_ending_word-word LineEnding.DeriveLF = refl
line_ending_word-word LineEnding.DeriveCRLF = refl
line_ending_word-word LineEnding.LF = refl
line_ending_word-word LineEnding.CRLF = refl

-- the value of each key
pub shown-word : (style : Style) → IsInRange style → (key : Key) → is_word (shown style key) ≡ true
shown-word style range Key.ColumnLimit = number-word style.column_limit _ range.column_limit (lit≤ tt)
shown-word style range Key.IndentWidth = number-word style.indent_width _ range.indent_width (lit≤ tt)
shown-word style range Key.ContinuationIndentWidth = number-word style.continuation_indent_width _ range.continuation_indent_width (lit≤ tt)
shown-word style range Key.TabWidth = number-word style.tab_width _ range.tab_width (lit≤ tt)
shown-word style range Key.UseTab = use_tab_word-word style.use_tab
shown-word style range Key.BreakBeforeBraces = break_before_braces_word-word style.break_before_braces
shown-word style range Key.BraceWrappingAfterCaseLabel = bool_word-word style.brace_wrapping_after_case_label
shown-word style range Key.BraceWrappingAfterEnum = bool_word-word style.brace_wrapping_after_enum
shown-word style range Key.BraceWrappingAfterExternBlock = bool_word-word style.brace_wrapping_after_extern_block
shown-word style range Key.BraceWrappingAfterFunction = bool_word-word style.brace_wrapping_after_function
shown-word style range Key.BraceWrappingAfterStruct = bool_word-word style.brace_wrapping_after_struct
shown-word style range Key.BraceWrappingAfterUnion = bool_word-word style.brace_wrapping_after_union
shown-word style range Key.BraceWrappingBeforeElse = bool_word-word style.brace_wrapping_before_else
shown-word style range Key.BraceWrappingBeforeWhile = bool_word-word style.brace_wrapping_before_while
shown-word style range Key.BraceWrappingAfterControlStatement = brace_wrapping_after_control_statement_word-word style.brace_wrapping_after_control_statement
shown-word style range Key.PointerAlignment = pointer_alignment_word-word style.pointer_alignment
shown-word style range Key.SpaceBeforeParens = space_before_parens_word-word style.space_before_parens
shown-word style range Key.AlignAfterOpenBracket = align_after_open_bracket_word-word style.align_after_open_bracket
shown-word style range Key.BinPackArguments = bool_word-word style.bin_pack_arguments
shown-word style range Key.BinPackParameters = bool_word-word style.bin_pack_parameters
shown-word style range Key.BreakBeforeBinaryOperators = break_before_binary_operators_word-word style.break_before_binary_operators
shown-word style range Key.BreakBeforeTernaryOperators = bool_word-word style.break_before_ternary_operators
shown-word style range Key.MaxEmptyLinesToKeep = number-word style.max_empty_lines_to_keep _ range.max_empty_lines_to_keep (lit≤ tt)
shown-word style range Key.KeepEmptyLinesAtTheStartOfBlocks = bool_word-word style.keep_empty_lines_at_the_start_of_blocks
shown-word style range Key.IndentCaseLabels = bool_word-word style.indent_case_labels
shown-word style range Key.IndentGotoLabels = bool_word-word style.indent_goto_labels
shown-word style range Key.IndentPPDirectives = indent_pp_directives_word-word style.indent_pp_directives
shown-word style range Key.AllowShortFunctionsOnASingleLine = allow_short_functions_on_a_single_line_word-word style.allow_short_functions_on_a_single_line
shown-word style range Key.AllowShortIfStatementsOnASingleLine = allow_short_if_statements_on_a_single_line_word-word style.allow_short_if_statements_on_a_single_line
shown-word style range Key.AllowShortLoopsOnASingleLine = bool_word-word style.allow_short_loops_on_a_single_line
shown-word style range Key.AllowShortBlocksOnASingleLine = allow_short_blocks_on_a_single_line_word-word style.allow_short_blocks_on_a_single_line
shown-word style range Key.AllowShortCaseLabelsOnASingleLine = bool_word-word style.allow_short_case_labels_on_a_single_line
shown-word style range Key.AllowShortEnumsOnASingleLine = bool_word-word style.allow_short_enums_on_a_single_line
shown-word style range Key.SpacesBeforeTrailingComments = number-word style.spaces_before_trailing_comments _ range.spaces_before_trailing_comments (lit≤ tt)
shown-word style range Key.SpaceAfterCStyleCast = bool_word-word style.space_after_c_style_cast
shown-word style range Key.Cpp11BracedListStyle = bool_word-word style.cpp11_braced_list_style
shown-word style range Key.AlignEscapedNewlines = align_escaped_newlines_word-word style.align_escaped_newlines
shown-word style range Key.AlignTrailingCommentsKind = align_trailing_comments_kind_word-word style.align_trailing_comments_kind
shown-word style range Key.LineEnding = line_ending_word-word style.line_ending
shown-word style range Key.InsertNewlineAtEOF = bool_word-word style.insert_newline_at_eof
shown-word style range Key.SkipMacroDefinitionBody = bool_word-word style.skip_macro_definition_body
shown-word style range Key.PenaltyBreakAssignment = number-word style.penalty_break_assignment _ range.penalty_break_assignment (lit≤ tt)
shown-word style range Key.PenaltyBreakBeforeFirstCallParameter = number-word style.penalty_break_before_first_call_parameter _ range.penalty_break_before_first_call_parameter (lit≤ tt)
shown-word style range Key.PenaltyBreakOpenParenthesis = number-word style.penalty_break_open_parenthesis _ range.penalty_break_open_parenthesis (lit≤ tt)
shown-word style range Key.PenaltyExcessCharacter = number-word style.penalty_excess_character _ range.penalty_excess_character (lit≤ tt)
shown-word style range Key.PenaltyReturnTypeOnItsOwnLine = number-word style.penalty_return_type_on_its_own_line _ range.penalty_return_type_on_its_own_line (lit≤ tt)
