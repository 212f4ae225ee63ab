-- What each whole breaking costs at least beyond a layout: it breaks in the stretch of tokens ahead, or leaves that on
-- one row.
use Rattle.std.specs.Prelude.{◌≡◌, ℕ, ◌+◌, ◌-◌, ◌*◌, min, max, Bool, ◌&&◌, not, ◌==◌, nat_lt, if◌then◌else◌, Option}
use Rattle.std.specs.Prelude.{Some, None, List, length, slice_get, zero, suc}
use Rattle.line_tokens.specs.Columns.{columns}
use Rattle.line_tokens.specs.Roles.{is_trailing}
use Rattle.line_tokens.specs.declared.LineTok.{LineTok}
use Rattle.line_tokens.specs.declared.Fixed.{Fixed}
use Rattle.style_table.specs.declared.style.Style.{Style}
use Rattle.layout_tables.specs.declared.penalties.GapRule.{GapRule}
use Rattle.layout_tables.specs.Breaks.{gap_rule}
use Rattle.layout_tables.specs.Spaces.{spaces_before}
use Rattle.line_state.specs.declared.gap.Gap.{Gap}
use Rattle.line_state.specs.declared.gap.GapRules.{GapRules}
use Rattle.line_state.specs.Layout.{Layout, is_some_decision}
use Rattle.line_state.specs.Line.{Line, gap_at}
use Rattle.searched_line.specs.Searched.{most_told}
use Rattle.searched_line.specs.declared.ahead.Stretch.{Stretch}
use Rattle.searched_line.specs.declared.ahead.GapAhead.{GapAhead}

abbrev pub no_stretch : Stretch
no_stretch = record { width = 0; least = most_told }

-- the gap may stay, and its token is one row whose columns past the limit cost
abbrev pub can_stay : GapRule → LineTok → Option Fixed → Bool
can_stay rule token decision =
    not (is_some_decision decision) && not rule.must && not (is_trailing token.role) && not (nat_lt 1 token.rows)
    && (token.first_width == token.last_width)

abbrev pub stretch_with : GapRules → LineTok → Option Fixed → Stretch → Stretch
stretch_with rules token decision next =
    if can_stay rules.rule token decision then record {
      width = columns (columns rules.spaces token.first_width) next.width;
      least = if rules.rule.can then min rules.rule.cost next.least else next.least;
    }
    else no_stretch

abbrev pub stretch_over : Style → Option Gap → Stretch → Stretch
stretch_over style None next = no_stretch
stretch_over style (Some gap) next =
    stretch_with
    (record { rule = gap_rule style gap.left gap.right; spaces = spaces_before style gap.left gap.right })
    gap.right gap.fixed next

-- the stretch ahead where so many tokens are left: its width on one row, and what a break in it costs at least
abbrev pub stretch_of : Line → ℕ → Stretch
stretch_of line zero = no_stretch
stretch_of line (suc n) = stretch_over line.style (gap_at line (length line.tokens - suc n)) (stretch_of line n)

abbrev pub stretch_ahead : Line → Layout → Stretch
stretch_ahead line s = stretch_of line (length line.tokens - s.index)

-- the columns past the limit that the stretch adds on the layout's row
abbrev pub excess_ahead : Line → Layout → ℕ
excess_ahead line s = columns s.column (stretch_ahead line s).width - max s.column line.style.column_limit

abbrev pub least_ahead : Line → Layout → ℕ
least_ahead line s = min (stretch_ahead line s).least (line.style.penalty_excess_character * excess_ahead line s)

abbrev pub stretch_in : GapAhead → Stretch
stretch_in gap = record { width = gap.width; least = gap.least }

-- what is known of each number of tokens that can be left
pub record HaveStretches (line : Line) (gaps : List GapAhead) : Type 0 where
  pub count : length gaps ≡ length line.tokens + 1
  pub told : (n : ℕ) (gap : GapAhead) → slice_get gaps n ≡ Some gap → stretch_in gap ≡ stretch_of line n
