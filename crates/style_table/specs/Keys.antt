-- The table of keys: how each is spelled, how its value is written, and how a value is read back.
-- docs/PROFILE.md has the table under "Styles", in this order.
use Rattle.std.specs.Prelude.{ℕ, Bool, true, false, ◌&&◌, not, nat_le, Option, Result, Ok, Err, if◌then◌else◌, List, []}
use Rattle.std.specs.Prelude.{◌∷◌, length, codes, bytes_eq, find, decimal}
use Rattle.std.specs.List.{list_all}
use Rattle.std.specs.Char.{is_digit}
use Rattle.std.specs.Str.Parse.{digits_value}
use Rattle.style_table.specs.declared.style.Style.{Style}
use Rattle.style_table.specs.declared.key.Key.{Key}
use Rattle.style_table.specs.declared.value.ValueFault.{ValueFault}
use Rattle.style_table.specs.declared.value.ValueFault.TheVariants.{BadValue, OutOfRange}
use Rattle.style_table.specs.Words.{value_in, bool_word, bool_words, use_tab_word, use_tab_words}
use Rattle.style_table.specs.Words.{break_before_braces_word, break_before_braces_words}
use Rattle.style_table.specs.Words.{brace_wrapping_after_control_statement_word}
use Rattle.style_table.specs.Words.{brace_wrapping_after_control_statement_words, pointer_alignment_word}
use Rattle.style_table.specs.Words.{pointer_alignment_words, space_before_parens_word, space_before_parens_words}
use Rattle.style_table.specs.Words.{align_after_open_bracket_word, align_after_open_bracket_words}
use Rattle.style_table.specs.Words.{break_before_binary_operators_word, break_before_binary_operators_words}
use Rattle.style_table.specs.Words.{indent_pp_directives_word, indent_pp_directives_words}
use Rattle.style_table.specs.Words.{allow_short_functions_on_a_single_line_word}
use Rattle.style_table.specs.Words.{allow_short_functions_on_a_single_line_words}
use Rattle.style_table.specs.Words.{allow_short_if_statements_on_a_single_line_word}
use Rattle.style_table.specs.Words.{allow_short_if_statements_on_a_single_line_words}
use Rattle.style_table.specs.Words.{allow_short_blocks_on_a_single_line_word, allow_short_blocks_on_a_single_line_words}
use Rattle.style_table.specs.Words.{align_escaped_newlines_word, align_escaped_newlines_words}
use Rattle.style_table.specs.Words.{align_trailing_comments_kind_word, align_trailing_comments_kind_words}
use Rattle.style_table.specs.Words.{line_ending_word, line_ending_words}

-- the keys in the order in which a style is written
abbrev pub keys : List Key
keys =
    Key.ColumnLimit
    ∷ Key.IndentWidth
    ∷ Key.ContinuationIndentWidth
    ∷ Key.TabWidth
    ∷ Key.UseTab
    ∷ Key.BreakBeforeBraces
    ∷ Key.BraceWrappingAfterCaseLabel
    ∷ Key.BraceWrappingAfterEnum
    ∷ Key.BraceWrappingAfterExternBlock
    ∷ Key.BraceWrappingAfterFunction
    ∷ Key.BraceWrappingAfterStruct
    ∷ Key.BraceWrappingAfterUnion
    ∷ Key.BraceWrappingBeforeElse
    ∷ Key.BraceWrappingBeforeWhile
    ∷ Key.BraceWrappingAfterControlStatement
    ∷ Key.PointerAlignment
    ∷ Key.SpaceBeforeParens
    ∷ Key.AlignAfterOpenBracket
    ∷ Key.BinPackArguments
    ∷ Key.BinPackParameters
    ∷ Key.BreakBeforeBinaryOperators
    ∷ Key.BreakBeforeTernaryOperators
    ∷ Key.MaxEmptyLinesToKeep
    ∷ Key.KeepEmptyLinesAtTheStartOfBlocks
    ∷ Key.IndentCaseLabels
    ∷ Key.IndentGotoLabels
    ∷ Key.IndentPPDirectives
    ∷ Key.AllowShortFunctionsOnASingleLine
    ∷ Key.AllowShortIfStatementsOnASingleLine
    ∷ Key.AllowShortLoopsOnASingleLine
    ∷ Key.AllowShortBlocksOnASingleLine
    ∷ Key.AllowShortCaseLabelsOnASingleLine
    ∷ Key.AllowShortEnumsOnASingleLine
    ∷ Key.SpacesBeforeTrailingComments
    ∷ Key.SpaceAfterCStyleCast
    ∷ Key.Cpp11BracedListStyle
    ∷ Key.AlignEscapedNewlines
    ∷ Key.AlignTrailingCommentsKind
    ∷ Key.LineEnding
    ∷ Key.InsertNewlineAtEOF
    ∷ Key.SkipMacroDefinitionBody
    ∷ Key.PenaltyBreakAssignment
    ∷ Key.PenaltyBreakBeforeFirstCallParameter
    ∷ Key.PenaltyBreakOpenParenthesis
    ∷ Key.PenaltyExcessCharacter
    ∷ Key.PenaltyReturnTypeOnItsOwnLine
    ∷ []

-- how a key is spelled: the key that it stands under, empty where there is none, and its own part
abbrev pub spelling_of : Key → List ℕ × List ℕ
spelling_of Key.ColumnLimit = ([], codes "ColumnLimit")
spelling_of Key.IndentWidth = ([], codes "IndentWidth")
spelling_of Key.ContinuationIndentWidth = ([], codes "ContinuationIndentWidth")
spelling_of Key.TabWidth = ([], codes "TabWidth")
spelling_of Key.UseTab = ([], codes "UseTab")
spelling_of Key.BreakBeforeBraces = ([], codes "BreakBeforeBraces")
spelling_of Key.BraceWrappingAfterCaseLabel = (codes "BraceWrapping", codes "AfterCaseLabel")
spelling_of Key.BraceWrappingAfterEnum = (codes "BraceWrapping", codes "AfterEnum")
spelling_of Key.BraceWrappingAfterExternBlock = (codes "BraceWrapping", codes "AfterExternBlock")
spelling_of Key.BraceWrappingAfterFunction = (codes "BraceWrapping", codes "AfterFunction")
spelling_of Key.BraceWrappingAfterStruct = (codes "BraceWrapping", codes "AfterStruct")
spelling_of Key.BraceWrappingAfterUnion = (codes "BraceWrapping", codes "AfterUnion")
spelling_of Key.BraceWrappingBeforeElse = (codes "BraceWrapping", codes "BeforeElse")
spelling_of Key.BraceWrappingBeforeWhile = (codes "BraceWrapping", codes "BeforeWhile")
spelling_of Key.BraceWrappingAfterControlStatement = (codes "BraceWrapping", codes "AfterControlStatement")
spelling_of Key.PointerAlignment = ([], codes "PointerAlignment")
spelling_of Key.SpaceBeforeParens = ([], codes "SpaceBeforeParens")
spelling_of Key.AlignAfterOpenBracket = ([], codes "AlignAfterOpenBracket")
spelling_of Key.BinPackArguments = ([], codes "BinPackArguments")
spelling_of Key.BinPackParameters = ([], codes "BinPackParameters")
spelling_of Key.BreakBeforeBinaryOperators = ([], codes "BreakBeforeBinaryOperators")
spelling_of Key.BreakBeforeTernaryOperators = ([], codes "BreakBeforeTernaryOperators")
spelling_of Key.MaxEmptyLinesToKeep = ([], codes "MaxEmptyLinesToKeep")
spelling_of Key.KeepEmptyLinesAtTheStartOfBlocks = ([], codes "KeepEmptyLinesAtTheStartOfBlocks")
spelling_of Key.IndentCaseLabels = ([], codes "IndentCaseLabels")
spelling_of Key.IndentGotoLabels = ([], codes "IndentGotoLabels")
spelling_of Key.IndentPPDirectives = ([], codes "IndentPPDirectives")
spelling_of Key.AllowShortFunctionsOnASingleLine = ([], codes "AllowShortFunctionsOnASingleLine")
spelling_of Key.AllowShortIfStatementsOnASingleLine = ([], codes "AllowShortIfStatementsOnASingleLine")
spelling_of Key.AllowShortLoopsOnASingleLine = ([], codes "AllowShortLoopsOnASingleLine")
spelling_of Key.AllowShortBlocksOnASingleLine = ([], codes "AllowShortBlocksOnASingleLine")
spelling_of Key.AllowShortCaseLabelsOnASingleLine = ([], codes "AllowShortCaseLabelsOnASingleLine")
spelling_of Key.AllowShortEnumsOnASingleLine = ([], codes "AllowShortEnumsOnASingleLine")
spelling_of Key.SpacesBeforeTrailingComments = ([], codes "SpacesBeforeTrailingComments")
spelling_of Key.SpaceAfterCStyleCast = ([], codes "SpaceAfterCStyleCast")
spelling_of Key.Cpp11BracedListStyle = ([], codes "Cpp11BracedListStyle")
spelling_of Key.AlignEscapedNewlines = ([], codes "AlignEscapedNewlines")
spelling_of Key.AlignTrailingCommentsKind = (codes "AlignTrailingComments", codes "Kind")
spelling_of Key.LineEnding = ([], codes "LineEnding")
spelling_of Key.InsertNewlineAtEOF = ([], codes "InsertNewlineAtEOF")
spelling_of Key.SkipMacroDefinitionBody = ([], codes "SkipMacroDefinitionBody")
spelling_of Key.PenaltyBreakAssignment = ([], codes "PenaltyBreakAssignment")
spelling_of Key.PenaltyBreakBeforeFirstCallParameter = ([], codes "PenaltyBreakBeforeFirstCallParameter")
spelling_of Key.PenaltyBreakOpenParenthesis = ([], codes "PenaltyBreakOpenParenthesis")
spelling_of Key.PenaltyExcessCharacter = ([], codes "PenaltyExcessCharacter")
spelling_of Key.PenaltyReturnTypeOnItsOwnLine = ([], codes "PenaltyReturnTypeOnItsOwnLine")

abbrev pub outer_of : Key → List ℕ
outer_of key = (spelling_of key).0

abbrev pub label_of : Key → List ℕ
label_of key = (spelling_of key).1

-- the first of the keys under its outer key
abbrev pub is_first_inside : Key → Bool
is_first_inside Key.BraceWrappingAfterCaseLabel = true
is_first_inside Key.AlignTrailingCommentsKind = true
is_first_inside _ = false

-- a key is spelled so
abbrev pub is_spelled : (outer label : List ℕ) → Key → Bool
is_spelled outer label key = bytes_eq (outer_of key) outer && bytes_eq (label_of key) label

-- the key that is spelled so
abbrev pub key_of : (outer label : List ℕ) → Option Key
key_of outer label = find (is_spelled outer label) keys

-- how a style's value of a key is written
abbrev pub shown : Style → Key → List ℕ
shown style Key.ColumnLimit = decimal style.column_limit
shown style Key.IndentWidth = decimal style.indent_width
shown style Key.ContinuationIndentWidth = decimal style.continuation_indent_width
shown style Key.TabWidth = decimal style.tab_width
shown style Key.UseTab = use_tab_word style.use_tab
shown style Key.BreakBeforeBraces = break_before_braces_word style.break_before_braces
shown style Key.BraceWrappingAfterCaseLabel = bool_word style.brace_wrapping_after_case_label
shown style Key.BraceWrappingAfterEnum = bool_word style.brace_wrapping_after_enum
shown style Key.BraceWrappingAfterExternBlock = bool_word style.brace_wrapping_after_extern_block
shown style Key.BraceWrappingAfterFunction = bool_word style.brace_wrapping_after_function
shown style Key.BraceWrappingAfterStruct = bool_word style.brace_wrapping_after_struct
shown style Key.BraceWrappingAfterUnion = bool_word style.brace_wrapping_after_union
shown style Key.BraceWrappingBeforeElse = bool_word style.brace_wrapping_before_else
shown style Key.BraceWrappingBeforeWhile = bool_word style.brace_wrapping_before_while
shown style Key.BraceWrappingAfterControlStatement =
    brace_wrapping_after_control_statement_word style.brace_wrapping_after_control_statement
shown style Key.PointerAlignment = pointer_alignment_word style.pointer_alignment
shown style Key.SpaceBeforeParens = space_before_parens_word style.space_before_parens
shown style Key.AlignAfterOpenBracket = align_after_open_bracket_word style.align_after_open_bracket
shown style Key.BinPackArguments = bool_word style.bin_pack_arguments
shown style Key.BinPackParameters = bool_word style.bin_pack_parameters
shown style Key.BreakBeforeBinaryOperators = break_before_binary_operators_word style.break_before_binary_operators
shown style Key.BreakBeforeTernaryOperators = bool_word style.break_before_ternary_operators
shown style Key.MaxEmptyLinesToKeep = decimal style.max_empty_lines_to_keep
shown style Key.KeepEmptyLinesAtTheStartOfBlocks = bool_word style.keep_empty_lines_at_the_start_of_blocks
shown style Key.IndentCaseLabels = bool_word style.indent_case_labels
shown style Key.IndentGotoLabels = bool_word style.indent_goto_labels
shown style Key.IndentPPDirectives = indent_pp_directives_word style.indent_pp_directives
shown style Key.AllowShortFunctionsOnASingleLine =
    allow_short_functions_on_a_single_line_word style.allow_short_functions_on_a_single_line
shown style Key.AllowShortIfStatementsOnASingleLine =
    allow_short_if_statements_on_a_single_line_word style.allow_short_if_statements_on_a_single_line
shown style Key.AllowShortLoopsOnASingleLine = bool_word style.allow_short_loops_on_a_single_line
shown style Key.AllowShortBlocksOnASingleLine =
    allow_short_blocks_on_a_single_line_word style.allow_short_blocks_on_a_single_line
shown style Key.AllowShortCaseLabelsOnASingleLine = bool_word style.allow_short_case_labels_on_a_single_line
shown style Key.AllowShortEnumsOnASingleLine = bool_word style.allow_short_enums_on_a_single_line
shown style Key.SpacesBeforeTrailingComments = decimal style.spaces_before_trailing_comments
shown style Key.SpaceAfterCStyleCast = bool_word style.space_after_c_style_cast
shown style Key.Cpp11BracedListStyle = bool_word style.cpp11_braced_list_style
shown style Key.AlignEscapedNewlines = align_escaped_newlines_word style.align_escaped_newlines
shown style Key.AlignTrailingCommentsKind = align_trailing_comments_kind_word style.align_trailing_comments_kind
shown style Key.LineEnding = line_ending_word style.line_ending
shown style Key.InsertNewlineAtEOF = bool_word style.insert_newline_at_eof
shown style Key.SkipMacroDefinitionBody = bool_word style.skip_macro_definition_body
shown style Key.PenaltyBreakAssignment = decimal style.penalty_break_assignment
shown style Key.PenaltyBreakBeforeFirstCallParameter = decimal style.penalty_break_before_first_call_parameter
shown style Key.PenaltyBreakOpenParenthesis = decimal style.penalty_break_open_parenthesis
shown style Key.PenaltyExcessCharacter = decimal style.penalty_excess_character
shown style Key.PenaltyReturnTypeOnItsOwnLine = decimal style.penalty_return_type_on_its_own_line

-- decimal digits alone
abbrev pub are_digits : List ℕ → Bool
are_digits text = list_all (λ c. is_digit c 10) text

-- 1 to 9 decimal digits
abbrev pub is_number : List ℕ → Bool
is_number text = nat_le 1 (length text) && nat_le (length text) 9 && are_digits text

-- the number that a text writes, where it is within these bounds
abbrev pub number_in : (least most : ℕ) → List ℕ → Result ℕ ValueFault
number_in least most text =
    if not (is_number text) then Err BadValue
    else if nat_le least (digits_value 10 text) && nat_le (digits_value 10 text) most then Ok (digits_value 10 text)
    else Err OutOfRange

-- the change by a value that was read
abbrev pub changed : {V : Type 0} → (V → Style) → Result V ValueFault → Result Style ValueFault
changed change (Ok value) = Ok (change value)
changed change (Err fault) = Err fault

-- the style after an entry with this key and this value
abbrev pub with_value : Style → Key → List ℕ → Result Style ValueFault
with_value style Key.ColumnLimit text = changed (λ v. record style { column_limit = v }) (number_in 0 1000 text)
with_value style Key.IndentWidth text = changed (λ v. record style { indent_width = v }) (number_in 0 16 text)
with_value style Key.ContinuationIndentWidth text =
    changed (λ v. record style { continuation_indent_width = v }) (number_in 0 16 text)
with_value style Key.TabWidth text = changed (λ v. record style { tab_width = v }) (number_in 1 16 text)
with_value style Key.UseTab text = changed (λ v. record style { use_tab = v }) (value_in use_tab_words text)
with_value style Key.BreakBeforeBraces text =
    changed (λ v. record style { break_before_braces = v }) (value_in break_before_braces_words text)
with_value style Key.BraceWrappingAfterCaseLabel text =
    changed (λ v. record style { brace_wrapping_after_case_label = v }) (value_in bool_words text)
with_value style Key.BraceWrappingAfterEnum text =
    changed (λ v. record style { brace_wrapping_after_enum = v }) (value_in bool_words text)
with_value style Key.BraceWrappingAfterExternBlock text =
    changed (λ v. record style { brace_wrapping_after_extern_block = v }) (value_in bool_words text)
with_value style Key.BraceWrappingAfterFunction text =
    changed (λ v. record style { brace_wrapping_after_function = v }) (value_in bool_words text)
with_value style Key.BraceWrappingAfterStruct text =
    changed (λ v. record style { brace_wrapping_after_struct = v }) (value_in bool_words text)
with_value style Key.BraceWrappingAfterUnion text =
    changed (λ v. record style { brace_wrapping_after_union = v }) (value_in bool_words text)
with_value style Key.BraceWrappingBeforeElse text =
    changed (λ v. record style { brace_wrapping_before_else = v }) (value_in bool_words text)
with_value style Key.BraceWrappingBeforeWhile text =
    changed (λ v. record style { brace_wrapping_before_while = v }) (value_in bool_words text)
with_value style Key.BraceWrappingAfterControlStatement text =
    changed (λ v. record style { brace_wrapping_after_control_statement = v })
    (value_in brace_wrapping_after_control_statement_words text)
with_value style Key.PointerAlignment text =
    changed (λ v. record style { pointer_alignment = v }) (value_in pointer_alignment_words text)
with_value style Key.SpaceBeforeParens text =
    changed (λ v. record style { space_before_parens = v }) (value_in space_before_parens_words text)
with_value style Key.AlignAfterOpenBracket text =
    changed (λ v. record style { align_after_open_bracket = v }) (value_in align_after_open_bracket_words text)
with_value style Key.BinPackArguments text =
    changed (λ v. record style { bin_pack_arguments = v }) (value_in bool_words text)
with_value style Key.BinPackParameters text =
    changed (λ v. record style { bin_pack_parameters = v }) (value_in bool_words text)
with_value style Key.BreakBeforeBinaryOperators text =
    changed (λ v. record style { break_before_binary_operators = v })
    (value_in break_before_binary_operators_words text)
with_value style Key.BreakBeforeTernaryOperators text =
    changed (λ v. record style { break_before_ternary_operators = v }) (value_in bool_words text)
with_value style Key.MaxEmptyLinesToKeep text =
    changed (λ v. record style { max_empty_lines_to_keep = v }) (number_in 0 100 text)
with_value style Key.KeepEmptyLinesAtTheStartOfBlocks text =
    changed (λ v. record style { keep_empty_lines_at_the_start_of_blocks = v }) (value_in bool_words text)
with_value style Key.IndentCaseLabels text =
    changed (λ v. record style { indent_case_labels = v }) (value_in bool_words text)
with_value style Key.IndentGotoLabels text =
    changed (λ v. record style { indent_goto_labels = v }) (value_in bool_words text)
with_value style Key.IndentPPDirectives text =
    changed (λ v. record style { indent_pp_directives = v }) (value_in indent_pp_directives_words text)
with_value style Key.AllowShortFunctionsOnASingleLine text =
    changed (λ v. record style { allow_short_functions_on_a_single_line = v })
    (value_in allow_short_functions_on_a_single_line_words text)
with_value style Key.AllowShortIfStatementsOnASingleLine text =
    changed (λ v. record style { allow_short_if_statements_on_a_single_line = v })
    (value_in allow_short_if_statements_on_a_single_line_words text)
with_value style Key.AllowShortLoopsOnASingleLine text =
    changed (λ v. record style { allow_short_loops_on_a_single_line = v }) (value_in bool_words text)
with_value style Key.AllowShortBlocksOnASingleLine text =
    changed (λ v. record style { allow_short_blocks_on_a_single_line = v })
    (value_in allow_short_blocks_on_a_single_line_words text)
with_value style Key.AllowShortCaseLabelsOnASingleLine text =
    changed (λ v. record style { allow_short_case_labels_on_a_single_line = v }) (value_in bool_words text)
with_value style Key.AllowShortEnumsOnASingleLine text =
    changed (λ v. record style { allow_short_enums_on_a_single_line = v }) (value_in bool_words text)
with_value style Key.SpacesBeforeTrailingComments text =
    changed (λ v. record style { spaces_before_trailing_comments = v }) (number_in 0 16 text)
with_value style Key.SpaceAfterCStyleCast text =
    changed (λ v. record style { space_after_c_style_cast = v }) (value_in bool_words text)
with_value style Key.Cpp11BracedListStyle text =
    changed (λ v. record style { cpp11_braced_list_style = v }) (value_in bool_words text)
with_value style Key.AlignEscapedNewlines text =
    changed (λ v. record style { align_escaped_newlines = v }) (value_in align_escaped_newlines_words text)
with_value style Key.AlignTrailingCommentsKind text =
    changed (λ v. record style { align_trailing_comments_kind = v })
    (value_in align_trailing_comments_kind_words text)
with_value style Key.LineEnding text = changed (λ v. record style { line_ending = v }) (value_in line_ending_words text)
with_value style Key.InsertNewlineAtEOF text =
    changed (λ v. record style { insert_newline_at_eof = v }) (value_in bool_words text)
with_value style Key.SkipMacroDefinitionBody text =
    changed (λ v. record style { skip_macro_definition_body = v }) (value_in bool_words text)
with_value style Key.PenaltyBreakAssignment text =
    changed (λ v. record style { penalty_break_assignment = v }) (number_in 0 100000000 text)
with_value style Key.PenaltyBreakBeforeFirstCallParameter text =
    changed (λ v. record style { penalty_break_before_first_call_parameter = v }) (number_in 0 100000000 text)
with_value style Key.PenaltyBreakOpenParenthesis text =
    changed (λ v. record style { penalty_break_open_parenthesis = v }) (number_in 0 100000000 text)
with_value style Key.PenaltyExcessCharacter text =
    changed (λ v. record style { penalty_excess_character = v }) (number_in 0 100000000 text)
with_value style Key.PenaltyReturnTypeOnItsOwnLine text =
    changed (λ v. record style { penalty_return_type_on_its_own_line = v }) (number_in 0 100000000 text)
