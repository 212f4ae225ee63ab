-- The white space that stands for a decision: docs/PROFILE.md, "White space of a decision".
use Rattle.std.specs.Prelude.{ℕ, ◌-◌, ◌*◌, ◌/◌, ◌%◌, min, zero, suc, Bool, if◌then◌else◌, List, [], ◌∷◌, ◌++◌}
use Rattle.std.specs.Prelude.{replicate}
use Rattle.style_table.specs.declared.style.Style.{Style}
use Rattle.style_table.specs.declared.style.UseTab.{UseTab}
use Rattle.style_table.specs.declared.style.UseTab.TheVariants.{Never, ForIndentation, ForContinuationAndIndentation}
use Rattle.style_table.specs.declared.style.UseTab.TheVariants.{AlignWithSpaces, Always}
use Rattle.replacements.specs.declared.gap_text.Decision.{Decision}
use Rattle.replacements.specs.declared.gap_text.Decision.TheVariants.{Old, Spaces, Lines, Splice}

-- so many blanks
abbrev pub blanks : ℕ → List ℕ
blanks count = replicate count 32

-- so many columns: as many tabs of this width as fit, and then blanks
abbrev pub tabs_to : ℕ → ℕ → List ℕ
tabs_to width column = replicate (column / width) 9 ++ blanks (column % width)

-- indentation up to a column, where so many of the columns are those of the line's level
abbrev pub indentation_by : UseTab → ℕ → ℕ → ℕ → List ℕ
indentation_by Never width own column = blanks column
indentation_by ForIndentation width own column = tabs_to width own ++ blanks (column - own)
indentation_by ForContinuationAndIndentation width own column = tabs_to width column
indentation_by AlignWithSpaces width own column = tabs_to width own ++ blanks (column - own)
indentation_by Always width own column = tabs_to width column

-- indentation up to a column in this style
abbrev pub indentation : Style → ℕ → ℕ → List ℕ
indentation style own column = indentation_by style.use_tab style.tab_width own column

-- the columns of a level, as far as this column
abbrev pub level_columns : Style → ℕ → ℕ → ℕ
level_columns style level column = min (level * style.indent_width) column

-- the end of a line: a new-line, with a carriage return before it where the text's lines end so
abbrev pub line_end : Bool → List ℕ
line_end crlf = if crlf then 13 ∷ 10 ∷ [] else 10 ∷ []

-- so many ends of lines
unfoldable pub line_ends : Bool → ℕ → List ℕ
line_ends crlf zero = []
line_ends crlf (suc count) = line_ends crlf count ++ line_end crlf

-- The bytes of a gap that was decided so, where the input's gap has these. All columns of a splice are its line's own.
abbrev pub gap_text : Style → Bool → Decision → List ℕ → List ℕ
gap_text style crlf Old old = old
gap_text style crlf (Spaces count) old = blanks count
gap_text style crlf (Lines count column level) old =
    line_ends crlf count ++ indentation style (level_columns style level column) column
gap_text style crlf (Splice pad column) old = blanks pad ++ (92 ∷ line_end crlf ++ indentation style column column)
