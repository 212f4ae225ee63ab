-- Nodes as they are added.
use Rattle.std.specs.Prelude.{ℕ, Bool, false}
use Rattle.frame_store.specs.declared.node.NodeState.{NodeState}
use Rattle.search_nodes.specs.declared.node.Node.{Node}

-- a node that isn't settled
abbrev pub open_node : NodeState → ℕ → Bool → ℕ → ℕ → Node
open_node state v brk before rank =
    record {
      state = state;
      parent = v;
      brk = brk;
      settled = false;
      settled_before = 0;
      jump = 0;
      height = 0;
      before = before;
      rank = rank;
    }
