-- What holds behind a run that lays out a view.
use Rattle.std.specs.Prelude.{◌≡◌, ◌<◌, ℕ, All, List, Option, Some, IsSome, length}
use Rattle.style_table.specs.declared.style.Style.{Style}
use Rattle.token_arena.specs.Gaps.{Contents}
use Rattle.line_tokens.specs.declared.LineTok.{LineTok}
use Rattle.item_classes.specs.Viewed.{AreWithin}
use Rattle.line_tokens.specs.declared.line.ULine.{ULine}
use Rattle.line_tokens.specs.Lines.{CutPlaces}
use Rattle.replacements.specs.declared.slot.Slot.{Slot}
use Rattle.replacements.specs.Decisions.{slot_of}
use Rattle.replacements.specs.Sound.{IsSound}
use Rattle.run_layout.specs.Laws.{AreOfTexts}
use Rattle.run_layout.specs.Outcomes.{LaidLine}
use Rattle.run_layout.specs.Tells.{StandForItems}
use Rattle.run_layout.specs.View.{AfterView}

-- A plan that decides only what may stand is such a plan after a run too, in every style, for any view of items of
-- texts, whatever roles its tokens have, whichever of its lines are joined and whichever are reported.
abbrev pub ViewsStaySound : Type 0
ViewsStaySound =
    (style : Style) (budget : ℕ) (arena : Contents) (ids : List ℕ) (toks : List LineTok) (run : ℕ)
    (plan : List (Option Slot)) (lines : List ULine) (final : List (Option Slot)) (done : List LaidLine) →
    AreWithin arena ids → AreOfTexts arena ids → StandForItems arena ids toks → CutPlaces 0 (length ids) lines →
    AfterView style budget arena ids toks run plan lines final done → IsSound arena plan → IsSound arena final

-- What is decided before a run stays.
abbrev pub ViewsKeep : Type 0
ViewsKeep =
    (style : Style) (budget : ℕ) (arena : Contents) (ids : List ℕ) (toks : List LineTok) (run : ℕ)
    (plan : List (Option Slot)) (lines : List ULine) (final : List (Option Slot)) (done : List LaidLine) →
    AfterView style budget arena ids toks run plan lines final done → (place : ℕ) (slot : Slot) →
    slot_of plan place ≡ Some slot → slot_of final place ≡ Some slot

-- Behind a run the gap of each item that it sees is decided.
abbrev pub ViewsDecide : Type 0
ViewsDecide =
    (style : Style) (budget : ℕ) (arena : Contents) (ids : List ℕ) (toks : List LineTok) (run : ℕ)
    (plan : List (Option Slot)) (lines : List ULine) (final : List (Option Slot)) (done : List LaidLine) →
    All (λ id. id < length plan) ids → StandForItems arena ids toks → CutPlaces 0 (length ids) lines →
    AfterView style budget arena ids toks run plan lines final done → All (λ id. IsSome (slot_of final id)) ids
