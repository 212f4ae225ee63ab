-- Blanks keep apart what may not touch.
use Rattle.std.specs.Prelude.{◌<◌, ◌⊎◌, IsTrue}
use Rattle.style_table.specs.declared.style.Style.{Style}
use Rattle.line_tokens.specs.declared.LineTok.{LineTok}
use Rattle.layout_tables.specs.Spaces.{spaces_before}

-- in every style no blank stands between two tokens only where nothing stood there, or where the two may touch
abbrev pub KeepsApart : Type 0
KeepsApart =
    (style : Style) (left right : LineTok) →
    (0 < spaces_before style left right) ⊎ (IsTrue right.gap.empty ⊎ IsTrue right.touch)
