-- The named styles: the table of docs/PROFILE.md, "Styles".
use Rattle.std.specs.Prelude.{ℕ, Bool, true, false, Option, Some, None, if◌then◌else◌, List, map, codes, bytes_eq}
use Rattle.std.specs.Char.{to_ascii_lowercase}
use Rattle.std.specs.Option.{option_map}
use Rattle.style_table.specs.declared.style.Style.{Style}
use Rattle.style_table.specs.declared.named.NamedStyle.{NamedStyle}
use Rattle.style_table.specs.declared.named.NamedStyle.TheVariants.{Llvm, Google, WebKit, Mozilla, Microsoft}
use Rattle.style_table.specs.declared.style.UseTab.TheVariants as UseTab
use Rattle.style_table.specs.declared.style.BreakBeforeBraces.TheVariants as BreakBeforeBraces
use Rattle.style_table.specs.declared.style.BraceWrappingAfterControlStatement.TheVariants as BraceWrappingAfterControlStatement
use Rattle.style_table.specs.declared.style.PointerAlignment.TheVariants as PointerAlignment
use Rattle.style_table.specs.declared.style.SpaceBeforeParens.TheVariants as SpaceBeforeParens
use Rattle.style_table.specs.declared.style.AlignAfterOpenBracket.TheVariants as AlignAfterOpenBracket
use Rattle.style_table.specs.declared.style.BreakBeforeBinaryOperators.TheVariants as BreakBeforeBinaryOperators
use Rattle.style_table.specs.declared.style.IndentPPDirectives.TheVariants as IndentPPDirectives
use Rattle.style_table.specs.declared.style.AllowShortFunctionsOnASingleLine.TheVariants as AllowShortFunctionsOnASingleLine
use Rattle.style_table.specs.declared.style.AllowShortIfStatementsOnASingleLine.TheVariants as AllowShortIfStatementsOnASingleLine
use Rattle.style_table.specs.declared.style.AllowShortBlocksOnASingleLine.TheVariants as AllowShortBlocksOnASingleLine
use Rattle.style_table.specs.declared.style.AlignEscapedNewlines.TheVariants as AlignEscapedNewlines
use Rattle.style_table.specs.declared.style.AlignTrailingCommentsKind.TheVariants as AlignTrailingCommentsKind
use Rattle.style_table.specs.declared.style.LineEnding.TheVariants as LineEnding

-- a name is that of a style, in letters of either case
abbrev pub is_spelled : (word name : List ℕ) → Bool
is_spelled word name = bytes_eq (map to_ascii_lowercase name) (map to_ascii_lowercase word)

-- the style that a name names
abbrev pub named_style : List ℕ → Option NamedStyle
named_style name =
    if is_spelled (codes "LLVM") name then Some Llvm
    else if is_spelled (codes "Google") name then Some Google
    else if is_spelled (codes "WebKit") name then Some WebKit
    else if is_spelled (codes "Mozilla") name then Some Mozilla
    else if is_spelled (codes "Microsoft") name then Some Microsoft
    else None

-- one of the five columns of the table
abbrev pub column : {V : Type 0} → NamedStyle → (llvm google web_kit mozilla microsoft : V) → V
column Llvm llvm google web_kit mozilla microsoft = llvm
column Google llvm google web_kit mozilla microsoft = google
column WebKit llvm google web_kit mozilla microsoft = web_kit
column Mozilla llvm google web_kit mozilla microsoft = mozilla
column Microsoft llvm google web_kit mozilla microsoft = microsoft

-- the table, a key a line: its values in LLVM, Google, WebKit, Mozilla and Microsoft, or one value for all
abbrev pub style_of : NamedStyle → Style
style_of name = record {
  column_limit = column name 80 80 0 80 120;
  indent_width = column name 2 2 4 2 4;
  continuation_indent_width = column name 4 4 4 2 4;
  tab_width = column name 8 8 8 8 4;
  use_tab = UseTab.Never;
  break_before_braces =
      column name BreakBeforeBraces.Attach BreakBeforeBraces.Attach BreakBeforeBraces.WebKit BreakBeforeBraces.Mozilla
      BreakBeforeBraces.Custom;
  brace_wrapping_after_case_label = false;
  brace_wrapping_after_enum = column name false false false false true;
  brace_wrapping_after_extern_block = column name false false false false true;
  brace_wrapping_after_function = column name false false false false true;
  brace_wrapping_after_struct = column name false false false false true;
  brace_wrapping_after_union = false;
  brace_wrapping_before_else = column name false false false false true;
  brace_wrapping_before_while = false;
  brace_wrapping_after_control_statement =
      column name BraceWrappingAfterControlStatement.Never BraceWrappingAfterControlStatement.Never
      BraceWrappingAfterControlStatement.Never BraceWrappingAfterControlStatement.Never
      BraceWrappingAfterControlStatement.Always;
  pointer_alignment =
      column name PointerAlignment.Right PointerAlignment.Left PointerAlignment.Left PointerAlignment.Left
      PointerAlignment.Right;
  space_before_parens = SpaceBeforeParens.ControlStatements;
  align_after_open_bracket =
      column name AlignAfterOpenBracket.Align AlignAfterOpenBracket.Align AlignAfterOpenBracket.DontAlign
      AlignAfterOpenBracket.Align AlignAfterOpenBracket.Align;
  bin_pack_arguments = column name true true true false true;
  bin_pack_parameters = column name true true true false true;
  break_before_binary_operators =
      column name BreakBeforeBinaryOperators.None BreakBeforeBinaryOperators.None BreakBeforeBinaryOperators.All
      BreakBeforeBinaryOperators.None BreakBeforeBinaryOperators.None;
  break_before_ternary_operators = true;
  max_empty_lines_to_keep = 1;
  keep_empty_lines_at_the_start_of_blocks = column name true false true true true;
  indent_case_labels = column name false true false true false;
  indent_goto_labels = true;
  indent_pp_directives = IndentPPDirectives.None;
  allow_short_functions_on_a_single_line =
      column name AllowShortFunctionsOnASingleLine.All AllowShortFunctionsOnASingleLine.All
      AllowShortFunctionsOnASingleLine.All AllowShortFunctionsOnASingleLine.Inline
      AllowShortFunctionsOnASingleLine.None;
  allow_short_if_statements_on_a_single_line =
      column name AllowShortIfStatementsOnASingleLine.Never AllowShortIfStatementsOnASingleLine.WithoutElse
      AllowShortIfStatementsOnASingleLine.Never AllowShortIfStatementsOnASingleLine.Never
      AllowShortIfStatementsOnASingleLine.Never;
  allow_short_loops_on_a_single_line = column name false true false false false;
  allow_short_blocks_on_a_single_line =
      column name AllowShortBlocksOnASingleLine.Never AllowShortBlocksOnASingleLine.Never
      AllowShortBlocksOnASingleLine.Empty AllowShortBlocksOnASingleLine.Never AllowShortBlocksOnASingleLine.Never;
  allow_short_case_labels_on_a_single_line = false;
  allow_short_enums_on_a_single_line = column name true true true true false;
  spaces_before_trailing_comments = column name 1 2 1 1 1;
  space_after_c_style_cast = false;
  cpp11_braced_list_style = column name true true false false true;
  align_escaped_newlines =
      column name AlignEscapedNewlines.Right AlignEscapedNewlines.Left AlignEscapedNewlines.Right
      AlignEscapedNewlines.Right AlignEscapedNewlines.Right;
  align_trailing_comments_kind =
      column name AlignTrailingCommentsKind.Always AlignTrailingCommentsKind.Always AlignTrailingCommentsKind.Never
      AlignTrailingCommentsKind.Always AlignTrailingCommentsKind.Always;
  line_ending = LineEnding.DeriveLF;
  insert_newline_at_eof = false;
  skip_macro_definition_body = false;
  penalty_break_assignment = 2;
  penalty_break_before_first_call_parameter = column name 19 1 19 19 19;
  penalty_break_open_parenthesis = 0;
  penalty_excess_character = 1000000;
  penalty_return_type_on_its_own_line = column name 60 200 60 200 1000;
}

-- the style of this name, if there is one
abbrev pub named : List ℕ → Option Style
named name = option_map style_of (named_style name)
