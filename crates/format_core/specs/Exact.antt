-- Which texts are formatted: a text that has a comment without an end has no items, so it is refused wherever it is
-- met.
use Rattle.std.specs.Prelude.{ℕ, List, Option}
use Rattle.c_chars.specs.declared.Dialect.{Dialect}
use Rattle.c_lexer.specs.Fault.{IsOpenAt}
use Rattle.style_table.specs.declared.style.Style.{Style}
use Rattle.off_regions.specs.declared.range.LineRange.{LineRange}
use Rattle.run_layout.specs.declared.report.Report.{Report}
use Rattle.format_core.specs.Formats.{Formats}

-- No text has both a layout and a block comment that nothing ends.
abbrev pub OpenTextsHaveNoLayout : Type 0
OpenTextsHaveNoLayout =
    (style : Style) (ranges : Option (List LineRange)) (budget : ℕ) (d : Dialect) (b c : List ℕ)
    (reports : List Report) (at : ℕ) →
    Formats style ranges budget d b c reports → IsOpenAt d b at → ⊥
