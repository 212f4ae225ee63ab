-- The words that a configuration writes for the values of its keys. docs/PROFILE.md has them under
-- "Styles": the words of today, and those of older configurations.
use Rattle.std.specs.Prelude.{ℕ, Bool, true, false, Result, Ok, Err, if◌then◌else◌, List, [], ◌∷◌, codes, bytes_eq}
use Rattle.style_table.specs.declared.value.ValueFault.{ValueFault}
use Rattle.style_table.specs.declared.value.ValueFault.TheVariants.{BadValue}
use Rattle.style_table.specs.declared.style.UseTab.{UseTab}
use Rattle.style_table.specs.declared.style.BreakBeforeBraces.{BreakBeforeBraces}
use Rattle.style_table.specs.declared.style.BraceWrappingAfterControlStatement.{BraceWrappingAfterControlStatement}
use Rattle.style_table.specs.declared.style.PointerAlignment.{PointerAlignment}
use Rattle.style_table.specs.declared.style.SpaceBeforeParens.{SpaceBeforeParens}
use Rattle.style_table.specs.declared.style.AlignAfterOpenBracket.{AlignAfterOpenBracket}
use Rattle.style_table.specs.declared.style.BreakBeforeBinaryOperators.{BreakBeforeBinaryOperators}
use Rattle.style_table.specs.declared.style.IndentPPDirectives.{IndentPPDirectives}
use Rattle.style_table.specs.declared.style.AllowShortFunctionsOnASingleLine.{AllowShortFunctionsOnASingleLine}
use Rattle.style_table.specs.declared.style.AllowShortIfStatementsOnASingleLine.{AllowShortIfStatementsOnASingleLine}
use Rattle.style_table.specs.declared.style.AllowShortBlocksOnASingleLine.{AllowShortBlocksOnASingleLine}
use Rattle.style_table.specs.declared.style.AlignEscapedNewlines.{AlignEscapedNewlines}
use Rattle.style_table.specs.declared.style.AlignTrailingCommentsKind.{AlignTrailingCommentsKind}
use Rattle.style_table.specs.declared.style.LineEnding.{LineEnding}

-- the value in the first row with this word
abbrev pub value_in : {V : Type 0} → List (List ℕ × V) → List ℕ → Result V ValueFault
value_in [] text = Err BadValue
value_in (row ∷ rows) text = if bytes_eq text row.0 then Ok row.1 else value_in rows text

abbrev pub bool_word : Bool → List ℕ
bool_word true = codes "true"
bool_word false = codes "false"

abbrev pub bool_words : List (List ℕ × Bool)
bool_words = (codes "true", true) ∷ (codes "false", false) ∷ []

abbrev pub use_tab_word : UseTab → List ℕ
use_tab_word UseTab.Never = codes "Never"
use_tab_word UseTab.ForIndentation = codes "ForIndentation"
use_tab_word UseTab.ForContinuationAndIndentation = codes "ForContinuationAndIndentation"
use_tab_word UseTab.AlignWithSpaces = codes "AlignWithSpaces"
use_tab_word UseTab.Always = codes "Always"

abbrev pub use_tab_words : List (List ℕ × UseTab)
use_tab_words =
    (codes "Never", UseTab.Never)
    ∷ (codes "ForIndentation", UseTab.ForIndentation)
    ∷ (codes "ForContinuationAndIndentation", UseTab.ForContinuationAndIndentation)
    ∷ (codes "AlignWithSpaces", UseTab.AlignWithSpaces)
    ∷ (codes "Always", UseTab.Always)
    ∷ (codes "true", UseTab.Always)
    ∷ (codes "false", UseTab.Never)
    ∷ []

abbrev pub break_before_braces_word : BreakBeforeBraces → List ℕ
break_before_braces_word BreakBeforeBraces.Attach = codes "Attach"
break_before_braces_word BreakBeforeBraces.Linux = codes "Linux"
break_before_braces_word BreakBeforeBraces.Mozilla = codes "Mozilla"
break_before_braces_word BreakBeforeBraces.Stroustrup = codes "Stroustrup"
break_before_braces_word BreakBeforeBraces.Allman = codes "Allman"
break_before_braces_word BreakBeforeBraces.WebKit = codes "WebKit"
break_before_braces_word BreakBeforeBraces.Custom = codes "Custom"

abbrev pub break_before_braces_words : List (List ℕ × BreakBeforeBraces)
break_before_braces_words =
    (codes "Attach", BreakBeforeBraces.Attach)
    ∷ (codes "Linux", BreakBeforeBraces.Linux)
    ∷ (codes "Mozilla", BreakBeforeBraces.Mozilla)
    ∷ (codes "Stroustrup", BreakBeforeBraces.Stroustrup)
    ∷ (codes "Allman", BreakBeforeBraces.Allman)
    ∷ (codes "WebKit", BreakBeforeBraces.WebKit)
    ∷ (codes "Custom", BreakBeforeBraces.Custom)
    ∷ []

abbrev pub brace_wrapping_after_control_statement_word : BraceWrappingAfterControlStatement → List ℕ
brace_wrapping_after_control_statement_word BraceWrappingAfterControlStatement.Never = codes "Never"
brace_wrapping_after_control_statement_word BraceWrappingAfterControlStatement.Always = codes "Always"

abbrev pub brace_wrapping_after_control_statement_words : List (List ℕ × BraceWrappingAfterControlStatement)
brace_wrapping_after_control_statement_words =
    (codes "Never", BraceWrappingAfterControlStatement.Never)
    ∷ (codes "Always", BraceWrappingAfterControlStatement.Always)
    ∷ (codes "true", BraceWrappingAfterControlStatement.Always)
    ∷ (codes "false", BraceWrappingAfterControlStatement.Never)
    ∷ []

abbrev pub pointer_alignment_word : PointerAlignment → List ℕ
pointer_alignment_word PointerAlignment.Right = codes "Right"
pointer_alignment_word PointerAlignment.Left = codes "Left"
pointer_alignment_word PointerAlignment.Middle = codes "Middle"

abbrev pub pointer_alignment_words : List (List ℕ × PointerAlignment)
pointer_alignment_words =
    (codes "Right", PointerAlignment.Right)
    ∷ (codes "Left", PointerAlignment.Left)
    ∷ (codes "Middle", PointerAlignment.Middle)
    ∷ []

abbrev pub space_before_parens_word : SpaceBeforeParens → List ℕ
space_before_parens_word SpaceBeforeParens.ControlStatements = codes "ControlStatements"
space_before_parens_word SpaceBeforeParens.Never = codes "Never"
space_before_parens_word SpaceBeforeParens.Always = codes "Always"

abbrev pub space_before_parens_words : List (List ℕ × SpaceBeforeParens)
space_before_parens_words =
    (codes "ControlStatements", SpaceBeforeParens.ControlStatements)
    ∷ (codes "Never", SpaceBeforeParens.Never)
    ∷ (codes "Always", SpaceBeforeParens.Always)
    ∷ (codes "ControlStatementsExceptForEachMacros", SpaceBeforeParens.ControlStatements)
    ∷ (codes "ControlStatementsExceptControlMacros", SpaceBeforeParens.ControlStatements)
    ∷ []

abbrev pub align_after_open_bracket_word : AlignAfterOpenBracket → List ℕ
align_after_open_bracket_word AlignAfterOpenBracket.Align = codes "Align"
align_after_open_bracket_word AlignAfterOpenBracket.DontAlign = codes "DontAlign"
align_after_open_bracket_word AlignAfterOpenBracket.AlwaysBreak = codes "AlwaysBreak"

abbrev pub align_after_open_bracket_words : List (List ℕ × AlignAfterOpenBracket)
align_after_open_bracket_words =
    (codes "Align", AlignAfterOpenBracket.Align)
    ∷ (codes "DontAlign", AlignAfterOpenBracket.DontAlign)
    ∷ (codes "AlwaysBreak", AlignAfterOpenBracket.AlwaysBreak)
    ∷ (codes "true", AlignAfterOpenBracket.Align)
    ∷ (codes "false", AlignAfterOpenBracket.DontAlign)
    ∷ []

abbrev pub break_before_binary_operators_word : BreakBeforeBinaryOperators → List ℕ
break_before_binary_operators_word BreakBeforeBinaryOperators.None = codes "None"
break_before_binary_operators_word BreakBeforeBinaryOperators.NonAssignment = codes "NonAssignment"
break_before_binary_operators_word BreakBeforeBinaryOperators.All = codes "All"

abbrev pub break_before_binary_operators_words : List (List ℕ × BreakBeforeBinaryOperators)
break_before_binary_operators_words =
    (codes "None", BreakBeforeBinaryOperators.None)
    ∷ (codes "NonAssignment", BreakBeforeBinaryOperators.NonAssignment)
    ∷ (codes "All", BreakBeforeBinaryOperators.All)
    ∷ (codes "true", BreakBeforeBinaryOperators.All)
    ∷ (codes "false", BreakBeforeBinaryOperators.None)
    ∷ []

abbrev pub indent_pp_directives_word : IndentPPDirectives → List ℕ
indent_pp_directives_word IndentPPDirectives.None = codes "None"
indent_pp_directives_word IndentPPDirectives.AfterHash = codes "AfterHash"
indent_pp_directives_word IndentPPDirectives.BeforeHash = codes "BeforeHash"

abbrev pub indent_pp_directives_words : List (List ℕ × IndentPPDirectives)
indent_pp_directives_words =
    (codes "None", IndentPPDirectives.None)
    ∷ (codes "AfterHash", IndentPPDirectives.AfterHash)
    ∷ (codes "BeforeHash", IndentPPDirectives.BeforeHash)
    ∷ []

abbrev pub allow_short_functions_on_a_single_line_word : AllowShortFunctionsOnASingleLine → List ℕ
allow_short_functions_on_a_single_line_word AllowShortFunctionsOnASingleLine.All = codes "All"
allow_short_functions_on_a_single_line_word AllowShortFunctionsOnASingleLine.None = codes "None"
allow_short_functions_on_a_single_line_word AllowShortFunctionsOnASingleLine.InlineOnly = codes "InlineOnly"
allow_short_functions_on_a_single_line_word AllowShortFunctionsOnASingleLine.Empty = codes "Empty"
allow_short_functions_on_a_single_line_word AllowShortFunctionsOnASingleLine.Inline = codes "Inline"

abbrev pub allow_short_functions_on_a_single_line_words : List (List ℕ × AllowShortFunctionsOnASingleLine)
allow_short_functions_on_a_single_line_words =
    (codes "All", AllowShortFunctionsOnASingleLine.All)
    ∷ (codes "None", AllowShortFunctionsOnASingleLine.None)
    ∷ (codes "InlineOnly", AllowShortFunctionsOnASingleLine.InlineOnly)
    ∷ (codes "Empty", AllowShortFunctionsOnASingleLine.Empty)
    ∷ (codes "Inline", AllowShortFunctionsOnASingleLine.Inline)
    ∷ (codes "true", AllowShortFunctionsOnASingleLine.All)
    ∷ (codes "false", AllowShortFunctionsOnASingleLine.None)
    ∷ []

abbrev pub allow_short_if_statements_on_a_single_line_word : AllowShortIfStatementsOnASingleLine → List ℕ
allow_short_if_statements_on_a_single_line_word AllowShortIfStatementsOnASingleLine.Never = codes "Never"
allow_short_if_statements_on_a_single_line_word AllowShortIfStatementsOnASingleLine.WithoutElse = codes "WithoutElse"
allow_short_if_statements_on_a_single_line_word AllowShortIfStatementsOnASingleLine.OnlyFirstIf = codes "OnlyFirstIf"
allow_short_if_statements_on_a_single_line_word AllowShortIfStatementsOnASingleLine.AllIfsAndElse =
    codes "AllIfsAndElse"

abbrev pub allow_short_if_statements_on_a_single_line_words : List (List ℕ × AllowShortIfStatementsOnASingleLine)
allow_short_if_statements_on_a_single_line_words =
    (codes "Never", AllowShortIfStatementsOnASingleLine.Never)
    ∷ (codes "WithoutElse", AllowShortIfStatementsOnASingleLine.WithoutElse)
    ∷ (codes "OnlyFirstIf", AllowShortIfStatementsOnASingleLine.OnlyFirstIf)
    ∷ (codes "AllIfsAndElse", AllowShortIfStatementsOnASingleLine.AllIfsAndElse)
    ∷ (codes "true", AllowShortIfStatementsOnASingleLine.WithoutElse)
    ∷ (codes "false", AllowShortIfStatementsOnASingleLine.Never)
    ∷ []

abbrev pub allow_short_blocks_on_a_single_line_word : AllowShortBlocksOnASingleLine → List ℕ
allow_short_blocks_on_a_single_line_word AllowShortBlocksOnASingleLine.Never = codes "Never"
allow_short_blocks_on_a_single_line_word AllowShortBlocksOnASingleLine.Empty = codes "Empty"
allow_short_blocks_on_a_single_line_word AllowShortBlocksOnASingleLine.Always = codes "Always"

abbrev pub allow_short_blocks_on_a_single_line_words : List (List ℕ × AllowShortBlocksOnASingleLine)
allow_short_blocks_on_a_single_line_words =
    (codes "Never", AllowShortBlocksOnASingleLine.Never)
    ∷ (codes "Empty", AllowShortBlocksOnASingleLine.Empty)
    ∷ (codes "Always", AllowShortBlocksOnASingleLine.Always)
    ∷ (codes "true", AllowShortBlocksOnASingleLine.Always)
    ∷ (codes "false", AllowShortBlocksOnASingleLine.Never)
    ∷ []

abbrev pub align_escaped_newlines_word : AlignEscapedNewlines → List ℕ
align_escaped_newlines_word AlignEscapedNewlines.Right = codes "Right"
align_escaped_newlines_word AlignEscapedNewlines.Left = codes "Left"
align_escaped_newlines_word AlignEscapedNewlines.DontAlign = codes "DontAlign"

abbrev pub align_escaped_newlines_words : List (List ℕ × AlignEscapedNewlines)
align_escaped_newlines_words =
    (codes "Right", AlignEscapedNewlines.Right)
    ∷ (codes "Left", AlignEscapedNewlines.Left)
    ∷ (codes "DontAlign", AlignEscapedNewlines.DontAlign)
    ∷ []

abbrev pub align_trailing_comments_kind_word : AlignTrailingCommentsKind → List ℕ
align_trailing_comments_kind_word AlignTrailingCommentsKind.Always = codes "Always"
align_trailing_comments_kind_word AlignTrailingCommentsKind.Never = codes "Never"

abbrev pub align_trailing_comments_kind_words : List (List ℕ × AlignTrailingCommentsKind)
align_trailing_comments_kind_words =
    (codes "Always", AlignTrailingCommentsKind.Always)
    ∷ (codes "Never", AlignTrailingCommentsKind.Never)
    ∷ []

abbrev pub line_ending_word : LineEnding → List ℕ
line_ending_word LineEnding.DeriveLF = codes "DeriveLF"
line_ending_word LineEnding.DeriveCRLF = codes "DeriveCRLF"
line_ending_word LineEnding.LF = codes "LF"
line_ending_word LineEnding.CRLF = codes "CRLF"

abbrev pub line_ending_words : List (List ℕ × LineEnding)
line_ending_words =
    (codes "DeriveLF", LineEnding.DeriveLF)
    ∷ (codes "DeriveCRLF", LineEnding.DeriveCRLF)
    ∷ (codes "LF", LineEnding.LF)
    ∷ (codes "CRLF", LineEnding.CRLF)
    ∷ []
