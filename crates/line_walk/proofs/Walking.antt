-- Choices, one after another.
use Rattle.std.proofs.Common.{◌≡◌, ℕ, Bool, Option, Some, None, IfSome, List, ap, subst}
use Rattle.frame_store.specs.declared.node.NodeState.{NodeState}
use Rattle.line_state.specs.declared.state.State.{State}
use Rattle.frame_store.specs.Store.{FrameList, IsIn, IsGrown}
use Rattle.line_state.specs.StoredStates.{state_in, layout_in}
use Rattle.line_state.specs.Layout.{Layout, layout_of}
use Rattle.line_state.specs.Line.{Line, Step}
use Rattle.searched_line.specs.Successors.{IsNextState, IsSuccessor, states_in}

-- the next state that is told
pub next_told : (line : Line) (state : State) (brk : Bool) (lists : List FrameList) (o : Option NodeState) → IsSuccessor line state brk (states_in lists o) → (next : NodeState) → o ≡ Some next → IsNextState line (layout_of state) state.cost brk (state_in lists next)
next_told line state brk lists o h next e = subst (λ (p : Option NodeState). IsSuccessor line state brk (states_in lists p)) e h

-- none is told
pub none_told : (line : Line) (state : State) (brk : Bool) (lists : List FrameList) (o : Option NodeState) → IsSuccessor line state brk (states_in lists o) → o ≡ None → (t : Layout) (k : ℕ) → Step line (layout_of state) brk t k → ⊥
none_told line state brk lists o h e = subst (λ (p : Option NodeState). IsSuccessor line state brk (states_in lists p)) e h

-- the next state's node is in the store
pub next_known : (lists : List FrameList) (o : Option NodeState) → IfSome o (IsIn lists) → (next : NodeState) → o ≡ Some next → IsIn lists next
next_known lists o h next e = subst (λ (p : Option NodeState). IfSome p (IsIn lists)) e h

-- a store that grew leaves its states
pub state_grown : (lists more : List FrameList) → IsGrown lists more → (state : NodeState) → IsIn lists state → state_in more state ≡ state_in lists state
state_grown lists more grown state is_in =
    ap (λ (l : FrameList). let s : State = record { index = state.index; column = state.column; cost = state.cost; base = l.base; frames = l.frames } in s) (grown.kept state.node is_in)

-- what a step from a state says of it as it was before the store grew
module _ (line : Line) (state : NodeState) (brk : Bool) (lists between more : List FrameList) (grown : IsGrown lists between) (known : IsIn lists state) (o : Option NodeState) (gives : IsSuccessor line (state_in between state) brk (states_in more o)) where
  as_before : IsSuccessor line (state_in lists state) brk (states_in more o)
  as_before = subst (λ (s : State). IsSuccessor line s brk (states_in more o)) (state_grown lists between grown state known) gives

  pub next_told_grown : (next : NodeState) → o ≡ Some next → IsNextState line (layout_in lists state) state.cost brk (state_in more next)
  next_told_grown next e = next_told line (state_in lists state) brk more o as_before next e

  pub none_told_grown : o ≡ None → (t : Layout) (k : ℕ) → Step line (layout_in lists state) brk t k → ⊥
  none_told_grown e = none_told line (state_in lists state) brk more o as_before e
