-- Choices that are tried one after another: the steps that were taken, and which breakings these leave.
use Rattle.std.specs.Prelude.{◌≡◌, ℕ, ◌+◌, ◌*◌, ◌<◌, ◌≤◌, Bool, true, false, List, [], ◌∷◌, length}
use Rattle.line_state.specs.Choices.{Leads, IsLeast, IsNotAfter}
use Rattle.line_state.proofs.Ways.{onto}
use Rattle.frame_store.specs.Store.{FrameList, IsIn}
use Rattle.line_state.specs.StoredStates.{layout_in, state_in}
use Rattle.line_state.specs.Layout.{Layout, cells_of}
use Rattle.line_state.specs.Line.{Line, gaps, first_layout, Step as StepOf}
use Rattle.searched_line.specs.Successors.{IsNextState}
use Rattle.break_search.specs.Outcome.{own_cells}
use Rattle.break_search.specs.declared.trail.Step.{Step}
use Rattle.break_search.specs.declared.descent.Choice.{Choice}
use Rattle.break_search.specs.declared.descent.Choice.TheVariants.{Stay, Break, Back}
use Rattle.break_search.specs.declared.outcome.Descent.{Descent}
use Rattle.break_search.specs.declared.outcome.Descent.TheVariants.{Goes, Ends, Stops}

-- the step is the last one
abbrev pub IsTop : List Step → Step → Type 0
IsTop steps step = (below : List Step) × (steps ≡ step ∷ below)

-- a step from another one, with its cells within the budget
pub record Follows (line : Line) (lists : List FrameList) (budget : ℕ) (e f : Step) : Type 0 where
  pub known : IsIn lists f.state
  pub leads : IsNextState line (layout_in lists e.state) e.state.cost f.brk (state_in lists f.state)
  pub own : f.own ≡ e.own + cells_of (layout_in lists f.state)
  pub within : f.own ≤ budget

-- the step of the first token
pub record IsRoot (line : Line) (lists : List FrameList) (budget : ℕ) (e : Step) : Type 0 where
  pub known : IsIn lists e.state
  pub layout : layout_in lists e.state ≡ first_layout line
  pub free : e.state.cost ≡ 0
  pub own : e.own ≡ cells_of (first_layout line)
  pub within : e.own ≤ budget

-- a step, and those before it, the last one first
abbrev pub IsOn : Line → List FrameList → ℕ → Step → List Step → Type 0
IsOn line lists budget f [] = IsRoot line lists budget f
IsOn line lists budget f (e ∷ es) = Follows line lists budget e f × IsOn line lists budget e es

abbrev pub IsTrail : Line → List FrameList → ℕ → List Step → Type 0
IsTrail line lists budget [] = ⊥
IsTrail line lists budget (f ∷ es) = IsOn line lists budget f es

-- the choices of steps, the last one first
abbrev pub choices : Step → List Step → List Bool
choices f [] = []
choices f (e ∷ es) = f.brk ∷ choices e es

abbrev pub choices_of : List Step → List Bool
choices_of [] = []
choices_of (f ∷ es) = choices f es

-- the list comes after all that begin with the choices
abbrev pub IsPast : List Bool → List Bool → Type 0
IsPast [] w = ⊥
IsPast (x ∷ p) [] = ⊥
IsPast (false ∷ p) (false ∷ w) = IsPast p w
IsPast (true ∷ p) (true ∷ w) = IsPast p w
IsPast (false ∷ p) (true ∷ w) = Unit {0}
IsPast (true ∷ p) (false ∷ w) = ⊥

-- of the whole breakings that cost less than the bound, those alone are left
abbrev pub AreLeft : Line → ℕ → (List Bool → Type 0) → Type 0
AreLeft line bound Left =
    (w : List Bool) (t : Layout) (c : ℕ) → length w ≡ gaps line → Leads (StepOf line) (first_layout line) w t c →
    c < bound → Left w

-- steps with a token left behind them; no whole breaking costs less than `most`, and of those that cost less than
-- `next` some alone are left
pub record IsAt (line : Line) (lists : List FrameList) (budget : ℕ) (steps : List Step) (most next : ℕ)
    (Left : List Bool → Type 0) : Type 0 where
  pub trail : IsTrail line lists budget steps
  pub room : length steps < length line.tokens
  pub floor : AreLeft line most (λ w. ⊥)
  pub above : most < next
  pub left : AreLeft line next Left

-- the choice is tried
abbrev pub IsTrying : Line → List FrameList → ℕ → List Step → ℕ → ℕ → Bool → Type 0
IsTrying line lists budget steps most next brk =
    IsAt line lists budget steps most next (λ w. IsNotAfter (onto (choices_of steps) (brk ∷ [])) w)

-- .. and what comes of it
abbrev pub IsDescent : Line → List FrameList → ℕ → List Step → ℕ → ℕ → Choice → Type 0
IsDescent line lists budget steps most next Stay = IsTrying line lists budget steps most next false
IsDescent line lists budget steps most next Break = IsTrying line lists budget steps most next true
IsDescent line lists budget steps most next Back =
    IsAt line lists budget steps most next (IsPast (onto (choices_of steps) []))

-- what is tried where a choice leads to nothing
abbrev pub after : Bool → Choice
after false = Break
after true = Back

-- the steps are the least breaking
pub record IsEnd (line : Line) (budget : ℕ) (steps : List Step) : Type 0 where
  pub top : Step
  pub below : List Step
  pub is : steps ≡ top ∷ below
  pub least : IsLeast (StepOf line) (first_layout line) (gaps line) (onto (choices top below) []) top.state.cost
  pub own : own_cells line (first_layout line) (onto (choices top below) []) ≤ budget
  pub small : top.state.cost ≤ 4294967295 * 18446744073709551615

abbrev pub IsTurned : Line → List FrameList → ℕ → List Step → ℕ → ℕ → Choice → Descent → Type 0
IsTurned line lists budget steps most next choice Goes = IsDescent line lists budget steps most next choice
IsTurned line lists budget steps most next choice Ends = IsEnd line budget steps
IsTurned line lists budget steps most next choice Stops = Unit {0}
