-- Where a choice after a layout of a line leads.
use Rattle.std.specs.Prelude.{◌≡◌, ℕ, ◌+◌, ◌*◌, ◌≤◌, Bool, Option, Some, None, List}
use Rattle.line_state.specs.declared.state.State.{State}
use Rattle.frame_store.specs.declared.node.NodeState.{NodeState}
use Rattle.frame_store.specs.Store.{FrameList}
use Rattle.line_state.specs.StoredStates.{state_in}
use Rattle.line_state.specs.Layout.{Layout, layout_of}
use Rattle.line_state.specs.Line.{Line, Step}

-- the state that the choice leads to
pub record IsNextState (line : Line) (layout : Layout) (before : ℕ) (brk : Bool) (next : State) : Type 0 where
  pub added : ℕ
  pub step : Step line layout brk (layout_of next) added
  pub cost : next.cost ≡ before + added
  pub cheap : next.cost ≤ next.index * 18446744073709551615

-- the choice is admissible, or it isn't
abbrev pub LeadsOn : Line → Layout → Bool → Type 0
LeadsOn line layout brk = (t : Layout) × (k : ℕ) × Step line layout brk t k

abbrev pub LeadsTo : Line → Layout → Bool → Layout → Type 0
LeadsTo line layout brk next = (k : ℕ) × Step line layout brk next k

abbrev pub LeadsNowhere : Line → Layout → Bool → Type 0
LeadsNowhere line layout brk = (t : Layout) (k : ℕ) → Step line layout brk t k → ⊥

-- what the choice leads to, where it is admissible
abbrev pub IsSuccessor : Line → State → Bool → Option State → Type 0
IsSuccessor line state brk None = (t : Layout) (k : ℕ) → Step line (layout_of state) brk t k → ⊥
IsSuccessor line state brk (Some next) = IsNextState line (layout_of state) state.cost brk next

-- .. read through the store
abbrev pub states_in : List FrameList → Option NodeState → Option State
states_in lists None = None
states_in lists (Some state) = Some (state_in lists state)
