-- Lines that stay on one row: nothing in them breaks, and no token goes past the limit. They need no search.
use Rattle.std.specs.Prelude.{◌≡◌, ◌==◌, ◌<◌, ◌≤◌, ◌⊎◌, ◌+◌, ◌*◌, ◌-◌, ℕ, zero, suc, min, All, drop, get_or, Bool, true}
use Rattle.std.specs.Prelude.{false, Option, Some, None, List, [], ◌∷◌, length, replicate, slice_get, if◌then◌else◌}
use Rattle.line_state.proofs.Thrift.{IsThrifty}
use Rattle.line_tokens.specs.declared.LineTok.{LineTok}
use Rattle.line_tokens.specs.declared.Fixed.{Fixed}
use Rattle.line_tokens.specs.Roles.{is_trailing}
use Rattle.line_tokens.specs.Tokens.{no_token}
use Rattle.line_state.specs.Brackets.{opens_frame}
use Rattle.line_tokens.specs.Columns.{columns, end_of}
use Rattle.line_state.specs.Layout.{Layout}
use Rattle.line_state.specs.Line.{Line, Step, gaps, first_layout, first_cost, decision_at}
use Rattle.line_state.proofs.Steps.{StayTogether}
use Rattle.break_search.specs.Outcome.{own_cells}
use Rattle.break_search.specs.Thrift.{IsStraight}
use Rattle.layout_tables.specs.Spaces.{spaces_before}
use Rattle.style_table.specs.declared.style.Style.{Style}
use Rattle.replacements.specs.declared.gap_text.Decision.TheVariants.{Spaces}
use Rattle.replacements.specs.declared.slot.Slot.{Slot}
use Rattle.replacements.specs.Decisions.{slot_of}

-- so many gaps stay as they are
abbrev pub stays : ℕ → List Bool
stays n = replicate n false

-- the gaps inside the line are open
abbrev pub IsOpenInside : Line → Type 0
IsOpenInside l = (i : ℕ) → 0 < i → decision_at l i ≡ None

-- the gaps before the tokens behind the first are open
abbrev pub AreOpenInside : List (Option Slot) → List LineTok → Type 0
AreOpenInside plan tokens =
    (i : ℕ) (token : LineTok) → 0 < i → slice_get tokens i ≡ Some token → slot_of plan token.id.0 ≡ None

-- the column where a token starts that stays behind another
abbrev pub stay_start : Style → ℕ → LineTok → LineTok → ℕ
stay_start style column left right = columns column (spaces_before style left right)

-- how many frames are open behind a token, where so many are before it
abbrev pub open_behind : ℕ → LineTok → ℕ
open_behind frames token = min token.depth frames + (if opens_frame token.role then 1 else 0)

-- the first row of a token that starts here doesn't pass the limit
abbrev pub Fits : Style → LineTok → ℕ → Type 0
Fits style token start = (is_trailing token.role ≡ true) ⊎ (columns start token.first_width ≤ style.column_limit)

-- A line on one row up to here: so many gaps behind its first token stay at no cost.
pub record IsOneRow (l : Line) (n column frames count : ℕ) : Type 0 where
  pub layout : Layout
  pub thrifty : IsThrifty (Step l) (first_layout l) (stays n) layout
  pub index : layout.index ≡ suc n
  pub column_is : layout.column ≡ column
  pub frames_are : length layout.frames ≡ frames
  pub own : own_cells l (first_layout l) (stays n) ≡ count
  pub base : (layout.base.comma == 2) ≡ false
  pub together : StayTogether layout.frames

-- So it is up to here: behind this column at most, with no more frames and cells than so many tokens may have.
pub record IsOneRowUpTo (l : Line) (n most : ℕ) : Type 0 where
  pub column : ℕ
  pub frames : ℕ
  pub count : ℕ
  pub row : IsOneRow l n column frames count
  pub within : column ≤ most
  pub few : frames ≤ n + 1
  pub cheap : count ≤ 1001 * (n + 1)

-- the whole line is: it is laid out with no break, within the budget and at no cost
pub record IsRow (l : Line) (budget : ℕ) : Type 0 where
  pub straight : IsStraight l budget (stays (gaps l))
  pub free : first_cost l ≡ 0

-- the decisions for the tokens behind one that ends at this column; trailing comments wait
abbrev pub row_made : Style → ℕ → LineTok → List LineTok → List (ℕ × Slot)
row_made style column left [] = []
row_made style column left (token ∷ tokens) =
    let start = stay_start style column left token in
    let later = row_made style (end_of token start) token tokens in
    if is_trailing token.role then later
    else (token.id.0, record { decision = Spaces (spaces_before style left token); end = start }) ∷ later

-- how many columns the tokens behind the first take up to one of them, with one blank before each
abbrev pub width_to : List LineTok → ℕ → ℕ
width_to tokens zero = 0
width_to tokens (suc i) = width_to tokens i + (1 + (get_or tokens (suc i) no_token).last_width)

-- So many tokens of a line, whose first ends at a column, stand in its row, and behind them wait trailing comments
-- alone.
pub record IsShortRow (tokens : List LineTok) (behind count : ℕ) : Type 0 where
  pub some : 0 < count
  pub within : count ≤ length tokens
  pub stand : (i : ℕ) (token : LineTok) → 0 < i → i < count → slice_get tokens i ≡ Some token →
      is_trailing token.role ≡ false
  pub wait : All (λ token. is_trailing token.role ≡ true) (drop count tokens)
  pub few : behind + width_to tokens (count - 1) ≤ 1000

-- no directive stands between two of these tokens
abbrev pub StandTogether : List LineTok → Type 0
StandTogether tokens =
    (k : ℕ) (d : LineTok) → 0 < k → k < length tokens → (get_or tokens k d).directive ≡ false

-- Lines of at most so many tokens need no count of their cells, since so few have never more than the budget, and there
-- is a limit of columns. Without one, or with a smaller budget, it is none.
pub record NeedNoCount (style : Style) (budget few : ℕ) : Type 0 where
  pub most : few ≤ 1000
  pub limit : 0 < few → 0 < style.column_limit
  pub rich : 0 < few → 1001000 ≤ budget

-- this is the line with these tokens, none of whose inner gaps is decided
pub record IsRowLine (l : Line) (style : Style) (column : ℕ) (tokens : List LineTok) (first : Option Fixed) : Type 0
  where
    pub style_is : l.style ≡ style
    pub column_is : l.column ≡ column
    pub tokens_are : l.tokens ≡ tokens
    pub first_is : decision_at l 0 ≡ first
    pub inside : IsOpenInside l
