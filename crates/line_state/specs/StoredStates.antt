-- States with their frames in a store.
use Rattle.std.specs.Prelude.{List}
use Rattle.frame_store.specs.declared.node.NodeState.{NodeState}
use Rattle.frame_store.specs.Store.{FrameList, list_at}
use Rattle.line_state.specs.declared.state.State.{State}
use Rattle.line_state.specs.Layout.{Layout, layout_of}

-- a state, read through the store: its node's list is its list of frames
abbrev pub state_in : List FrameList → NodeState → State
state_in lists state =
    record {
      index = state.index;
      column = state.column;
      cost = state.cost;
      base = (list_at lists state.node).base;
      frames = (list_at lists state.node).frames;
    }

abbrev pub layout_in : List FrameList → NodeState → Layout
layout_in lists state = layout_of (state_in lists state)
