-- Admissible choices.
use Rattle.std.specs.Prelude.{◌≡◌, ◌==◌, false, ℕ, Bool, List, length}
use Rattle.line_state.specs.Choices.{Leads}
use Rattle.line_state.specs.Layout.{Layout}
use Rattle.line_state.proofs.Steps.{StayTogether}
use Rattle.line_state.specs.Line.{Line, Step, gaps, first_layout}

-- the choices are admissible, one for each gap inside the line
pub record IsAdmissible (line : Line) (breaks : List Bool) : Type 0 where
  pub count : length breaks ≡ gaps line
  pub layout : Layout
  pub cost : ℕ
  pub leads : Leads (Step line) (first_layout line) breaks layout cost

-- no frame's commas break, so the next gap may stay where it needs no break
pub record MayStay (s : Layout) : Type 0 where
  pub base : (s.base.comma == 2) ≡ false
  pub together : StayTogether s.frames
