-- What holds behind a run.
use Rattle.std.specs.Prelude.{◌≡◌, ◌<◌, ◌⊎◌, ◌||◌, ◌-◌, ℕ, All, Bool, true, false, List, Option, Some, IsSome, get_or}
use Rattle.std.specs.Prelude.{length}
use Rattle.style_table.specs.declared.style.Style.{Style}
use Rattle.token_arena.specs.Gaps.{Contents}
use Rattle.line_tokens.specs.declared.LineTok.{LineTok}
use Rattle.line_tokens.specs.Roles.{is_trailing}
use Rattle.layout_tables.specs.Breaks.{ends_its_row}
use Rattle.item_classes.specs.Viewed.{AreWithin}
use Rattle.token_arena.specs.Sections.{sections_of}
use Rattle.line_tokens.specs.declared.line.ULine.{ULine}
use Rattle.line_tokens.specs.Lines.{CutPlaces}
use Rattle.replacements.specs.declared.slot.Slot.{Slot}
use Rattle.replacements.specs.declared.stance.Stance.TheVariants.{OfText}
use Rattle.replacements.specs.Sound.{IsSound}
use Rattle.replacements.specs.Stances.{stance_in}
use Rattle.line_state.specs.Choices.{Leads}
use Rattle.line_state.specs.Layout.{Layout}
use Rattle.line_state.specs.Line.{Line, Step}
use Rattle.replacements.specs.Decisions.{slot_of}
use Rattle.run_layout.specs.Outcomes.{AfterLines, LaidLine}
use Rattle.line_tokens.specs.Tokens.{no_token}
use Rattle.run_layout.specs.Tells.{StandForItems}

-- the items with these numbers stand in texts, not in directives
abbrev pub AreOfTexts : Contents → List ℕ → Type 0
AreOfTexts arena ids = All (λ id. stance_in (sections_of arena) id ≡ OfText) ids

-- A plan that decides only what may stand is such a plan after a run too, in every style, for any view of items of
-- texts, whatever roles its tokens have and whichever lines are reported.
abbrev pub LinesStaySound : Type 0
LinesStaySound =
    (style : Style) (budget : ℕ) (arena : Contents) (ids : List ℕ) (toks : List LineTok) (run : ℕ)
    (plan : List (Option Slot)) (lines : List ULine) (final : List (Option Slot)) (done : List LaidLine) →
    AreWithin arena ids → AreOfTexts arena ids → StandForItems arena ids toks → CutPlaces 0 (length ids) lines →
    AfterLines style budget arena ids toks run plan lines final done → IsSound arena plan → IsSound arena final

-- What is decided before a run stays.
abbrev pub LinesKeep : Type 0
LinesKeep =
    (style : Style) (budget : ℕ) (arena : Contents) (ids : List ℕ) (toks : List LineTok) (run : ℕ)
    (plan : List (Option Slot)) (lines : List ULine) (final : List (Option Slot)) (done : List LaidLine) →
    AfterLines style budget arena ids toks run plan lines final done → (place : ℕ) (slot : Slot) →
    slot_of plan place ≡ Some slot → slot_of final place ≡ Some slot

-- The token is a trailing comment, and may stay on the row of the one to its left.
pub record IsWaiting (left token : LineTok) : Type 0 where
  pub trails : is_trailing token.role ≡ true
  pub joins : (token.directive || ends_its_row left.kind) ≡ false

-- Behind the lines of a run the gap of each item that it sees is decided, or waits before a trailing comment.
abbrev pub LinesDecide : Type 0
LinesDecide =
    (style : Style) (budget : ℕ) (arena : Contents) (ids : List ℕ) (toks : List LineTok) (run : ℕ)
    (plan : List (Option Slot)) (lines : List ULine) (final : List (Option Slot)) (done : List LaidLine) →
    length toks ≡ length ids → CutPlaces 0 (length ids) lines →
    AfterLines style budget arena ids toks run plan lines final done → (k : ℕ) → k < length ids →
    get_or ids k 0 < length plan →
    IsSome (slot_of final (get_or ids k 0))
    ⊎ ((0 < k) × IsWaiting (get_or toks (k - 1) no_token) (get_or toks k no_token))

-- Without a limit of columns a line has one admissible breaking.
abbrev pub OneBreakingIsAdmissible : Type 0
OneBreakingIsAdmissible =
    (l : Line) (s t u : Layout) (breaks other : List Bool) (cost paid : ℕ) → l.style.column_limit ≡ 0 →
    length breaks ≡ length other →
    Leads (Step l) s breaks t cost → Leads (Step l) s other u paid → breaks ≡ other
