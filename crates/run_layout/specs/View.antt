-- The lines of a view, as they are laid out: docs/PROFILE.md, "Layout of lines", "Joined lines" and "Trailing
-- comments".
use Rattle.std.specs.Prelude.{◌≡◌, ℕ, Option, List, map}
use Rattle.style_table.specs.declared.style.Style.{Style}
use Rattle.line_tokens.specs.declared.LineTok.{LineTok}
use Rattle.token_arena.specs.Gaps.{Contents}
use Rattle.item_classes.specs.Viewed.{classes_of}
use Rattle.line_tokens.specs.declared.line.ULine.{ULine}
use Rattle.line_joiner.specs.Joined.{joined}
use Rattle.replacements.specs.declared.slot.Slot.{Slot}
use Rattle.replacements.specs.Breaks.{fixed_by}
use Rattle.replacements.specs.Decisions.{slot_of, decided_all}
use Rattle.comment_rows.specs.Comments.{comments_made}
use Rattle.run_layout.specs.Outcomes.{LaidLine, AfterLines}
use Rattle.run_layout.specs.RunsLaid.{IsToldOf}
use Rattle.run_layout.specs.declared.report.Tally.{Tally}

-- the lines of a view with short ones joined; what the plan has for the gap before an item is decided of it
abbrev pub joined_lines : Style → Contents → List ℕ → List LineTok → List (Option Slot) → List ULine → List ULine
joined_lines style arena ids toks plan lines =
    joined style (classes_of arena ids) toks (map (λ id. fixed_by arena id (slot_of plan id)) ids) lines

-- Behind a run that sees these items, whose unwrapped lines are these, stands this plan, and this came of its lines:
-- short ones are joined, then they are laid out one after another, and last the trailing comments are placed.
abbrev pub AfterView : Style → ℕ → Contents → List ℕ → List LineTok → ℕ → List (Option Slot) → List ULine →
    List (Option Slot) → List LaidLine → Type 0
AfterView style budget arena ids toks run plan lines final done =
    (laid : List (Option Slot))
    × AfterLines style budget arena ids toks run plan (joined_lines style arena ids toks plan lines) laid done
    × (final ≡ decided_all laid (comments_made style toks laid))

-- behind the run stands this plan, and its lines are told so
pub record IsViewLaid (style : Style) (budget : ℕ) (arena : Contents) (ids : List ℕ) (toks : List LineTok) (run : ℕ)
    (plan : List (Option Slot)) (lines : List ULine) (final : List (Option Slot)) (before after : Tally) : Type 0
  where
    pub done : List LaidLine
    pub view_is : AfterView style budget arena ids toks run plan lines final done
    pub told : IsToldOf done before after
