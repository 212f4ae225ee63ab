-- What is known of each gap inside a line, asked once.
use Rattle.std.specs.Prelude.{◌≡◌, ℕ, ◌+◌, ◌-◌, ◌<◌, Option, Some, List, length, slice_get}
use Rattle.std.specs.Bool.{OnTrue}
use Rattle.line_tokens.specs.declared.LineTok.{LineTok}
use Rattle.line_tokens.specs.declared.Fixed.{Fixed}
use Rattle.style_table.specs.declared.style.Style.{Style}
use Rattle.line_state.specs.declared.gap.GapRules.{GapRules}
use Rattle.line_state.specs.Layout.{AreRules}
use Rattle.line_state.specs.Line.{joined}
use Rattle.line_state.specs.Beside.{IsAsideIfLess, IsRowIfLess, HasToStay}
use Rattle.searched_line.specs.declared.ahead.GapAhead.{GapAhead}

-- what the tables say of a gap
abbrev pub rules_in : GapAhead → GapRules
rules_in gap =
    record { rule = record { can = gap.can; must = gap.must; cost = gap.cost }; spaces = gap.spaces }

-- .. how far the token behind it moves the column where it stays, how wide the row is that it begins where the gap
-- breaks, and whether the gap has to stay
pub record IsGapAhead (style : Style) (left right : LineTok) (fixed : Option Fixed) (gap : GapAhead) : Type 0 where
  pub rules : AreRules style left right (rules_in gap)
  pub aside : IsAsideIfLess style left right fixed gap.aside
  pub row : IsRowIfLess style left right fixed gap.row
  pub stays : OnTrue gap.stays (HasToStay style left right fixed)

-- that of the gap before each token but the first one, by how many tokens are left there
pub record HaveGaps (style : Style) (tokens : List LineTok) (fixed : List (Option Fixed)) (gaps : List GapAhead) :
    Type 0 where
  pub count : length gaps ≡ length tokens + 1
  pub told : (at : ℕ) (left right : LineTok) (gap : GapAhead) → 0 < at → slice_get tokens (at - 1) ≡ Some left →
      slice_get tokens at ≡ Some right → slice_get gaps (length tokens - at) ≡ Some gap →
      IsGapAhead style left right (joined (slice_get fixed at)) gap
