-- Which braces begin a line: the values of BreakBeforeBraces. docs/PROFILE.md has the table under "Statements and
-- lines".
use Rattle.std.specs.Prelude.{Bool, true, false}
use Rattle.style_table.specs.declared.style.Style.{Style}
use Rattle.style_table.specs.declared.style.BreakBeforeBraces.{BreakBeforeBraces}
use Rattle.style_table.specs.declared.style.BreakBeforeBraces.TheVariants.{Attach, Linux, Mozilla, Stroustrup, Allman}
use Rattle.style_table.specs.declared.style.BreakBeforeBraces.TheVariants.{WebKit, Custom}
use Rattle.style_table.specs.declared.style.BraceWrappingAfterControlStatement.{BraceWrappingAfterControlStatement}
use Rattle.style_table.specs.declared.style.BraceWrappingAfterControlStatement.TheVariants.{Never, Always}
use Rattle.statement_lines.specs.declared.braces.Braces.{Braces}

abbrev pub always_wraps : BraceWrappingAfterControlStatement → Bool
always_wraps Never = false
always_wraps Always = true

-- no brace begins a line; labels as the style has them
abbrev pub plain_braces : Style → Braces
plain_braces style = record {
  after_case_label = false;
  after_control = false;
  after_enum = false;
  after_extern = false;
  after_function = false;
  after_struct = false;
  after_union = false;
  before_else = false;
  before_while = false;
  indent_case_labels = style.indent_case_labels;
  indent_goto_labels = style.indent_goto_labels;
}

-- as the keys under BraceWrapping have it
abbrev pub custom_braces : Style → Braces
custom_braces style = record (plain_braces style) {
  after_case_label = style.brace_wrapping_after_case_label;
  after_control = always_wraps style.brace_wrapping_after_control_statement;
  after_enum = style.brace_wrapping_after_enum;
  after_extern = style.brace_wrapping_after_extern_block;
  after_function = style.brace_wrapping_after_function;
  after_struct = style.brace_wrapping_after_struct;
  after_union = style.brace_wrapping_after_union;
  before_else = style.brace_wrapping_before_else;
  before_while = style.brace_wrapping_before_while;
}

-- the row of the table with this value
abbrev pub braces_by : BreakBeforeBraces → Style → Braces
braces_by Attach style = plain_braces style
braces_by Linux style = record (plain_braces style) { after_function = true }
braces_by WebKit style = record (plain_braces style) { after_function = true }
braces_by Mozilla style =
    record (plain_braces style)
    { after_enum = true; after_extern = true; after_function = true; after_struct = true; after_union = true }
braces_by Stroustrup style = record (plain_braces style) { after_function = true; before_else = true }
braces_by Allman style = record (plain_braces style) {
  after_case_label = true;
  after_control = true;
  after_enum = true;
  after_extern = true;
  after_function = true;
  after_struct = true;
  after_union = true;
  before_else = true;
}
braces_by Custom style = custom_braces style

-- what a style says of braces and labels
abbrev pub braces_of : Style → Braces
braces_of style = braces_by style.break_before_braces style
