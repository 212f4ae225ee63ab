-- What comes of each line of a run: docs/PROFILE.md, "Layout of lines".
use Rattle.std.specs.Prelude.{◌≡◌, ◌<◌, ℕ, Bool, Option, List, [], ◌∷◌, get_or}
use Rattle.style_table.specs.declared.style.Style.{Style}
use Rattle.line_tokens.specs.declared.LineTok.{LineTok}
use Rattle.break_search.specs.Outcome.{IsFound, IsOver}
use Rattle.line_walk.specs.Starts.{IsAdmissible}
use Rattle.token_arena.specs.Gaps.{Contents}
use Rattle.line_tokens.specs.declared.line.ULine.{ULine}
use Rattle.replacements.specs.declared.slot.Slot.{Slot}
use Rattle.replacements.specs.Decisions.{decided_all}
use Rattle.item_classes.specs.Items.{item_at}
pub use Rattle.line_gaps.specs.OpenGaps.{AreDecided, IsOpen}
use Rattle.line_gaps.specs.InputColumns.{reported_made}
use Rattle.run_layout.specs.Broken.{broken_line, broken_made}
use Rattle.line_gaps.specs.Rows.{first_made}

-- ## One line

-- what comes of a line
pub data LineOutcome : Type 0 where
  -- each of its gaps was decided before
  Kept : LineOutcome
  -- without a limit of columns it is broken in the one way that is admissible
  Only : List Bool → LineOutcome
  -- it is broken so, at this cost
  Least : List Bool → ℕ → LineOutcome
  -- it has more cells than the budget: it is reported with this number
  Over : ℕ → LineOutcome

-- This comes of a line behind a plan: of one without an open gap nothing. What is free is only whether a line whose
-- cells exceed the budget is reported.
abbrev pub ComesOf : Style → ℕ → Contents → List ℕ → List LineTok → List (Option Slot) → ULine → LineOutcome → Type 0
ComesOf style budget arena ids toks plan line Kept = AreDecided plan ids line
ComesOf style budget arena ids toks plan line (Only breaks) =
    IsOpen plan ids line × (style.column_limit ≡ 0) × IsAdmissible (broken_line style arena ids toks plan line) breaks
ComesOf style budget arena ids toks plan line (Least breaks cost) =
    IsOpen plan ids line × (0 < style.column_limit)
    × IsFound (broken_line style arena ids toks plan line) budget breaks cost
ComesOf style budget arena ids toks plan line (Over cells) =
    IsOpen plan ids line × (0 < style.column_limit) × IsOver (broken_line style arena ids toks plan line) budget cells

-- the decisions that follow
abbrev pub outcome_made : Style → Contents → List ℕ → List LineTok → List (Option Slot) → ULine → LineOutcome →
    List (ℕ × Slot)
outcome_made style arena ids toks plan line Kept = []
outcome_made style arena ids toks plan line (Only breaks) = broken_made style arena ids toks plan line breaks
outcome_made style arena ids toks plan line (Least breaks cost) = broken_made style arena ids toks plan line breaks
outcome_made style arena ids toks plan line (Over cells) =
    first_made style arena ids line ∷ reported_made style arena ids line

-- ## All lines of a run

-- a line of a run, and what came of it
pub record LaidLine : Type 0 where
  pub run : ℕ
  pub row : ℕ
  pub outcome : LineOutcome

-- the physical line of its first item
abbrev pub row_of : Contents → List ℕ → ULine → ℕ
row_of arena ids line = (item_at arena (get_or ids line.first 0)).line

-- Behind these lines of a run stands this plan, and this came of them in their order.
abbrev pub AfterLines : Style → ℕ → Contents → List ℕ → List LineTok → ℕ → List (Option Slot) → List ULine →
    List (Option Slot) → List LaidLine → Type 0
AfterLines style budget arena ids toks run plan [] final done = (final ≡ plan) × (done ≡ [])
AfterLines style budget arena ids toks run plan (line ∷ lines) final done =
    (outcome : LineOutcome) × (later : List LaidLine)
    × ComesOf style budget arena ids toks plan line outcome
    × (done ≡ record { run = run; row = row_of arena ids line; outcome = outcome } ∷ later)
    × AfterLines style budget arena ids toks run
    (decided_all plan (outcome_made style arena ids toks plan line outcome)) lines final later
