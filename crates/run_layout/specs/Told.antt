-- What is told of a line that was laid out.
use Rattle.std.specs.Prelude.{◌≡◌, ℕ, List, Option, ⊤}
use Rattle.style_table.specs.declared.style.Style.{Style}
use Rattle.line_tokens.specs.declared.LineTok.{LineTok}
use Rattle.token_arena.specs.Gaps.{Contents}
use Rattle.line_tokens.specs.declared.line.ULine.{ULine}
use Rattle.replacements.specs.declared.slot.Slot.{Slot}
use Rattle.replacements.specs.Decisions.{decided_all}
use Rattle.run_layout.specs.Outcomes.{LineOutcome, Kept, Only, Least, Over, ComesOf, outcome_made}
use Rattle.run_layout.specs.declared.laid.Laid.{Laid}
use Rattle.run_layout.specs.declared.laid.Laid.TheVariants as laid

-- what came of a line is told so
abbrev pub IsTold : LineOutcome → Laid → Type 0
IsTold Kept laid.Unsearched = ⊤
IsTold (Only breaks) laid.Unsearched = ⊤
IsTold (Least breaks cost) (laid.Least told) = told ≡ cost
IsTold (Over cells) (laid.Over told) = told ≡ cells
IsTold _ _ = ⊥

-- A line is laid out: this stands behind it, by something that comes of it.
pub record IsLaid (style : Style) (budget : ℕ) (arena : Contents) (ids : List ℕ) (toks : List LineTok)
    (plan : List (Option Slot)) (line : ULine) (after : List (Option Slot)) (told : Laid) : Type 0 where
  pub outcome : LineOutcome
  pub comes : ComesOf style budget arena ids toks plan line outcome
  pub plan_is : after ≡ decided_all plan (outcome_made style arena ids toks plan line outcome)
  pub told_is : IsTold outcome told
