-- With which kinds of lines a row of the table begins that joins lines under a style.
use Rattle.std.specs.Prelude.{ℕ, Bool, ◌&&◌, ◌||◌, List, [], ◌∷◌}
use Rattle.style_table.specs.declared.style.Style.{Style}
use Rattle.line_tokens.specs.declared.line.LineKind.{LineKind}
use Rattle.line_tokens.specs.declared.line.LineKind.TheVariants.{Simple, CaseLabel, GotoLabel, Control, FuncHead}
use Rattle.line_tokens.specs.declared.line.LineKind.TheVariants.{StructHead, EnumHead, ExternHead, Brace, Close}
use Rattle.line_tokens.specs.declared.line.LineKind.TheVariants.{Enumerator, MacroLine, Comment}
use Rattle.line_joiner.specs.Keys.{joins_empty_functions, joins_all_functions, joins_ifs, joins_ifs_with_else}
use Rattle.line_joiner.specs.Keys.{joins_elses, joins_empty_blocks, joins_all_blocks}
use Rattle.line_joiner.specs.Kinds.{is_case_label, is_control, is_func_head, is_struct_head, is_enum_head}
use Rattle.line_joiner.specs.Kinds.{may_have_else}

-- some function is joined
abbrev pub joins_functions : Style → Bool
joins_functions style =
    joins_empty_functions style.allow_short_functions_on_a_single_line
    || joins_all_functions style.allow_short_functions_on_a_single_line

-- some `if` without braces is joined
abbrev pub joins_some_ifs : Style → Bool
joins_some_ifs style =
    joins_ifs style.allow_short_if_statements_on_a_single_line
    || joins_ifs_with_else style.allow_short_if_statements_on_a_single_line

-- some block of a header is joined
abbrev pub joins_blocks : Style → Bool
joins_blocks style =
    joins_empty_blocks style.allow_short_blocks_on_a_single_line
    || joins_all_blocks style.allow_short_blocks_on_a_single_line

-- some header is joined
abbrev pub joins_headers : Style → Bool
joins_headers style =
    joins_some_ifs style || (style.allow_short_loops_on_a_single_line || joins_blocks style)

-- some row of the table that the style has begins with a line of this kind
abbrev pub heads_row : Style → LineKind → Bool
heads_row style kind =
    is_struct_head kind
    || ((is_func_head kind && joins_functions style)
    || ((is_control kind && joins_headers style)
    || ((may_have_else kind && joins_elses style.allow_short_if_statements_on_a_single_line)
    || ((is_case_label kind && style.allow_short_case_labels_on_a_single_line)
    || (is_enum_head kind && style.allow_short_enums_on_a_single_line)))))

-- the same for each kind, as they are listed
abbrev pub heads_of : Style → List Bool
heads_of style =
    heads_row style Simple ∷ heads_row style CaseLabel ∷ heads_row style GotoLabel ∷ heads_row style Control
    ∷ heads_row style FuncHead ∷ heads_row style StructHead ∷ heads_row style EnumHead ∷ heads_row style ExternHead
    ∷ heads_row style Brace ∷ heads_row style Close ∷ heads_row style Enumerator ∷ heads_row style MacroLine
    ∷ heads_row style Comment ∷ []

-- which kind it is, as they are listed
abbrev pub number_of : LineKind → ℕ
number_of Simple = 0
number_of CaseLabel = 1
number_of GotoLabel = 2
number_of Control = 3
number_of FuncHead = 4
number_of StructHead = 5
number_of EnumHead = 6
number_of ExternHead = 7
number_of Brace = 8
number_of Close = 9
number_of Enumerator = 10
number_of MacroLine = 11
number_of Comment = 12
