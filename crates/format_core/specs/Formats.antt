-- What a formatted text is to its input.
use Rattle.std.specs.Prelude.{◌≡◌, ℕ, List, Option}
use Rattle.c_chars.specs.declared.Dialect.{Dialect}
use Rattle.token_arena.specs.Gaps.{Contents}
use Rattle.token_arena.specs.Holds.{HoldsItems}
use Rattle.token_arena.specs.Sections.{sections_of}
use Rattle.style_table.specs.declared.style.Style.{Style}
use Rattle.off_regions.specs.declared.range.LineRange.{LineRange}
use Rattle.replacements.specs.declared.slot.Slot.{Slot}
use Rattle.replacements.specs.Written.{written}
use Rattle.run_layout.specs.Outcomes.{LaidLine}
use Rattle.run_layout.specs.Reports.{reports_of}
use Rattle.run_layout.specs.declared.report.Report.{Report}
use Rattle.run_layout.specs.declared.report.Counts.{Counts}
use Rattle.format_core.specs.LineEnds.{ends_by}
use Rattle.format_core.specs.Plans.{IsPlanOf}
use Rattle.format_core.specs.Reports.{AreCounts}

-- The second text is that of a plan for the items of the first in this style, read in this dialect, where these lines
-- are asked for, or all without ranges; no line that the budget suffices for is left out of the search, and these are
-- the reports of those that are.
pub record Formats (style : Style) (ranges : Option (List LineRange)) (budget : ℕ) (d : Dialect) (b c : List ℕ)
    (reports : List Report) : Type 0 where
  pub contents : Contents
  pub text : contents.text ≡ b
  pub dialect : contents.dialect ≡ d
  pub holds : HoldsItems contents
  pub plan : List (Option Slot)
  pub done : List LaidLine
  pub planned : IsPlanOf style ranges budget contents plan done
  pub written_so : c ≡ written style (ends_by style.line_ending contents.text) contents (sections_of contents) plan
  pub reported : reports ≡ reports_of done

-- the same, and these are the counts of that plan's lines
pub record IsFormatted (style : Style) (ranges : Option (List LineRange)) (budget : ℕ) (d : Dialect) (b c : List ℕ)
    (reports : List Report) (counts : Counts) : Type 0 where
  pub formats : Formats style ranges budget d b c reports
  pub counted : AreCounts formats.contents formats.done counts
