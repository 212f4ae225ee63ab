-- Tokens that stand beside the one before them, or begin a row, and leave the frames as they are.
use Rattle.std.specs.Prelude.{◌≡◌, ℕ, ◌+◌, ◌-◌, ◌<◌, nat_lt, Bool, true, false, ◌&&◌, if◌then◌else◌, Option, None}
use Rattle.line_tokens.specs.Roles.{is_comma, is_trailing, is_decl_name, is_list_close}
use Rattle.line_tokens.specs.declared.role.Role.{Role}
use Rattle.line_tokens.specs.declared.LineTok.{LineTok}
use Rattle.line_tokens.specs.declared.Fixed.{Fixed}
use Rattle.line_tokens.specs.Columns.{columns}
use Rattle.style_table.specs.declared.style.Style.{Style}
use Rattle.layout_tables.specs.declared.penalties.GapRule.{GapRule}
use Rattle.layout_tables.specs.Breaks.{gap_rule}
use Rattle.layout_tables.specs.Spaces.{spaces_before}
use Rattle.line_state.specs.declared.gap.Gap.{Gap}
use Rattle.frame_store.specs.Frames.{topmost, below_topmost}
use Rattle.frame_store.specs.Store.{FrameList}
use Rattle.line_state.specs.Brackets.{opens_frame, binds_commas, binds_opening}
use Rattle.line_state.specs.Layout.{Layout, excess, gap_before, is_allowed}

-- the columns past the limit that a token adds to the row of the token before it
abbrev pub excess_beside : Style → ℕ → ℕ → LineTok → ℕ
excess_beside style column start token =
    if is_trailing token.role then 0 else excess style (columns start token.first_width) - excess style column

-- a token that may begin a row whatever the frames are, and leaves those as they are that are open before it
pub record IsBelow (style : Style) (gap : Gap) (rule : GapRule) (brk : Bool) : Type 0 where
  pub breaks : brk ≡ true
  pub inside : gap.first ≡ false
  pub free : gap.fixed ≡ None
  pub may : rule.must ≡ false
  pub can : rule.can ≡ true
  pub left : opens_frame gap.left.role ≡ false
  pub right : opens_frame gap.right.role ≡ false
  pub unbound : (opener : Role) → (is_comma gap.left.role && binds_commas style opener) ≡ false
  pub released : (opener : Role) → binds_opening style opener ≡ false

-- where it starts inside these frames
abbrev pub row_start : Role → FrameList → ℕ
row_start role list =
    if is_decl_name role then list.base.base
    else (if is_list_close role then (below_topmost list.base list.frames).base
    else (topmost list.base list.frames).indent)

-- the columns past the limit of its row
abbrev pub excess_below : Style → ℕ → LineTok → ℕ
excess_below style start token =
    if is_trailing token.role then 0 else excess style (columns start token.first_width)

-- a token that may stay beside the one before it whatever the frames are, leaves those as they are that are open before
-- it, and moves the column by the width
pub record IsAside (style : Style) (left right : LineTok) (fixed : Option Fixed) (width : ℕ) : Type 0 where
  pub free : fixed ≡ None
  pub may : (gap_rule style left right).must ≡ false
  pub left_opens : opens_frame left.role ≡ false
  pub right_opens : opens_frame right.role ≡ false
  pub unbound : (opener : Role) → (is_comma left.role && binds_commas style opener) ≡ false
  pub costs : is_trailing right.role ≡ false
  pub low : nat_lt 1 right.rows ≡ false
  pub even : right.first_width ≡ right.last_width
  pub wide : width ≡ spaces_before style left right + right.first_width

-- a width that is less than the largest number tells that
abbrev pub IsAsideIfLess : Style → LineTok → LineTok → Option Fixed → ℕ → Type 0
IsAsideIfLess style left right fixed width = width < 4294967295 → IsAside style left right fixed width

-- a token that may begin a row whatever the frames are, leaves those as they are that are open before it, starts where
-- the topmost one says, and ends the width behind that
pub record IsRow (style : Style) (left right : LineTok) (fixed : Option Fixed) (width : ℕ) : Type 0 where
  pub free : fixed ≡ None
  pub may : (gap_rule style left right).must ≡ false
  pub can : (gap_rule style left right).can ≡ true
  pub left_opens : opens_frame left.role ≡ false
  pub right_opens : opens_frame right.role ≡ false
  pub unbound : (opener : Role) → (is_comma left.role && binds_commas style opener) ≡ false
  pub released : (opener : Role) → binds_opening style opener ≡ false
  pub inside : is_decl_name right.role ≡ false
  pub inner : is_list_close right.role ≡ false
  pub costs : is_trailing right.role ≡ false
  pub low : nat_lt 1 right.rows ≡ false
  pub even : right.first_width ≡ right.last_width
  pub wide : width ≡ right.first_width

-- a width that is less than the largest number tells that
abbrev pub IsRowIfLess : Style → LineTok → LineTok → Option Fixed → ℕ → Type 0
IsRowIfLess style left right fixed width = width < 4294967295 → IsRow style left right fixed width

-- no break may be in the gap between two tokens of a line, whatever frames are open there
abbrev pub HasToStay : Style → LineTok → LineTok → Option Fixed → Type 0
HasToStay style left right fixed =
    (layout : Layout) → 0 < layout.index → is_allowed style layout (gap_before layout left right fixed) true ≡ false
