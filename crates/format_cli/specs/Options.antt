-- How texts are formatted.
use Rattle.std.specs.Prelude.{ℕ, List, Option, option_map}
use Rattle.off_regions.specs.declared.range.LineRange.{LineRange}
use Rattle.style_table.specs.declared.style.Style.{Style}
use Rattle.format_cli.specs.declared.input.Options.{Options as Referred}

-- in this style, the lines of these ranges, with so many cells for the search of a line
pub record Options : Type 0 where
  pub style : Style
  pub ranges : Option (List LineRange)
  pub budget : ℕ

-- the values that options refer to
abbrev pub values_of : Referred → Options
values_of options = record {
  style = options.style.now;
  ranges = option_map (λ ranges. ranges.now) options.ranges;
  budget = options.budget;
}
