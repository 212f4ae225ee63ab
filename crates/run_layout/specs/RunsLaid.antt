-- A run that was laid out, with what is told of its lines.
use Rattle.std.specs.Prelude.{◌≡◌, ℕ, ◌+◌, List, ◌++◌, Option}
use Rattle.style_table.specs.declared.style.Style.{Style}
use Rattle.line_tokens.specs.declared.LineTok.{LineTok}
use Rattle.token_arena.specs.Gaps.{Contents}
use Rattle.line_tokens.specs.declared.line.ULine.{ULine}
use Rattle.replacements.specs.declared.slot.Slot.{Slot}
use Rattle.run_layout.specs.Outcomes.{LaidLine, AfterLines}
use Rattle.run_layout.specs.Reports.{reports_of, searched_of, cost_of}
use Rattle.run_layout.specs.declared.report.Tally.{Tally}

-- these lines come on top of what was told before
pub record IsToldOf (done : List LaidLine) (before after : Tally) : Type 0 where
  pub reports : after.reports.items ≡ before.reports.items ++ reports_of done
  pub searched : after.searched ≡ before.searched + searched_of done
  pub cost : after.cost ≡ before.cost + cost_of done

-- behind the lines of a run stands this plan, and they are told so
pub record IsRunLaid (style : Style) (budget : ℕ) (arena : Contents) (ids : List ℕ) (toks : List LineTok) (run : ℕ)
    (plan : List (Option Slot)) (lines : List ULine) (final : List (Option Slot)) (before after : Tally) : Type 0
  where
    pub done : List LaidLine
    pub lines_are : AfterLines style budget arena ids toks run plan lines final done
    pub told : IsToldOf done before after
