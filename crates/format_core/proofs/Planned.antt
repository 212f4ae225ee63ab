-- The text of a plan.
use Rattle.std.proofs.Common.{◌≡◌, ◌∙◌, ℕ, ◌+◌, Bool, Option, None, List, length, replicate, sym, ap, subst}
use Rattle.style_table.specs.declared.style.Style.{Style}
use Rattle.token_arena.specs.Gaps.{Contents}
use Rattle.replacements.specs.declared.slot.Slot.{Slot}
use Rattle.replacements.specs.Decisions.{decided_all}
use Rattle.off_regions.specs.declared.range.LineRange.{LineRange}
use Rattle.run_layout.specs.Outcomes.{LaidLine}
use Rattle.early_gaps.specs.BeforeRuns.{early_decisions, early_plan}
use Rattle.format_core.specs.Plans.{AfterRuns, IsPlanOf}
use Rattle.run_parts.specs.Runs.{runs_of}
use Rattle.token_arena.specs.declared.directives.Section.{Section}
use Rattle.token_arena.specs.Sections.{sections_of}
use Rattle.replacements.specs.Written.{written}
use Rattle.format_core.specs.LineEnds.{ends_by}

-- ## The text

-- what was written is the text of the plan
pub laid_is : (style : Style) (arena : Contents) (crlf : Bool) (sections : List Section) (plan : List (Option Slot)) (text laid : List ℕ) →
    laid ≡ written style crlf arena sections plan → crlf ≡ ends_by style.line_ending text → sections ≡ sections_of arena → arena.text ≡ text →
    laid ≡ written style (ends_by style.line_ending arena.text) arena (sections_of arena) plan
laid_is style arena crlf sections plan text laid is ends cut same =
    is
    ∙ (ap (λ (b : Bool). written style b arena sections plan) (ends ∙ ap (λ (z : List ℕ). ends_by style.line_ending z) (sym same))
    ∙ ap (λ (s : List Section). written style (ends_by style.line_ending arena.text) arena s plan) cut)

-- ## The plan

-- what the runs make of the plan before them is a plan of the text
pub planned_by : (style : Style) (ranges : Option (List LineRange)) (budget : ℕ) (arena : Contents) (empty after final : List (Option Slot)) (done : List LaidLine) → empty ≡ replicate (length arena.tokens + 1) None
    → after ≡ decided_all empty (early_decisions style arena ranges) → AfterRuns style budget arena after 0 (runs_of arena) final done → IsPlanOf style ranges budget arena final done
planned_by style ranges budget arena empty after final done none made laid =
    let early : after ≡ early_plan style arena ranges = made ∙ ap (λ (plan : List (Option Slot)). decided_all plan (early_decisions style arena ranges)) none in
    subst (λ (plan : List (Option Slot)). AfterRuns style budget arena plan 0 (runs_of arena) final done) early laid
