-- The frames of many states, kept once: a node is a frame and the node below it, and stands for a list of frames.
use Rattle.std.specs.Prelude.{◌≡◌, ℕ, ◌+◌, ◌<◌, ◌≤◌, ◌^◌, Option, Some, None, IfSome, List, [], ◌∷◌, ◌++◌, length, fold}
use Rattle.std.specs.Prelude.{slice_get, slice_index_or}
use Rattle.line_tokens.specs.declared.role.Role.TheVariants.{Word}
use Rattle.frame_store.specs.Chains.{Chained, Lists}
use Rattle.frame_store.specs.declared.frames.Frame.{Frame}
use Rattle.frame_store.specs.declared.node.Node.{Node}
use Rattle.frame_store.specs.declared.node.NodeState.{NodeState}
use Rattle.frame_store.specs.Digest.{digest_with, frame_digest}

-- a list of frames: the base frame, and those above it, lowest first
pub record FrameList : Type 0 where
  pub base : Frame
  pub frames : List Frame

-- the list of a number that no node has
abbrev pub no_list : FrameList
no_list = record { base = record { indent = 0; base = 0; comma = 0; opening = 0; opener = Word }; frames = [] }

-- the list of a node
abbrev pub list_at : List FrameList → ℕ → FrameList
list_at lists v = slice_index_or lists v no_list

-- the list of a frame alone, or with the list of a node below it
abbrev pub extended : List FrameList → Frame → Option ℕ → FrameList
extended lists frame None = record { base = frame; frames = [] }
extended lists frame (Some b) =
    record { base = (list_at lists b).base; frames = (list_at lists b).frames ++ frame ∷ [] }

-- the lists of nodes, of which each stands on one before it
abbrev pub with_node : List FrameList → Node → List FrameList
with_node lists node = lists ++ extended lists node.frame node.below ∷ []

unfoldable pub lists_of : List Node → List FrameList
lists_of nodes = fold with_node [] nodes

-- there is such a node
abbrev pub IsKnown : List FrameList → Option ℕ → Type 0
IsKnown lists below = IfSome below (λ b. b < length lists)

-- two nodes with the same list are the same node
abbrev pub AreApart : List FrameList → Type 0
AreApart lists = (u v : ℕ) → u < length lists → v < length lists → list_at lists u ≡ list_at lists v → u ≡ v

-- no node has the list
abbrev pub IsNowhere : List FrameList → FrameList → Type 0
IsNowhere lists list = (v : ℕ) → v < length lists → list_at lists v ≡ list → ⊥

-- nodes were added, and those that were keep their lists
pub record IsGrown (lists more : List FrameList) : Type 0 where
  pub longer : length lists ≤ length more
  pub kept : (v : ℕ) → v < length lists → list_at more v ≡ list_at lists v

-- the node of a state is in the store
abbrev pub IsIn : List FrameList → NodeState → Type 0
IsIn lists state = state.node < length lists

-- what a node tells of its list
pub record IsNode (lists : List FrameList) (v : ℕ) (node : Node) : Type 0 where
  pub list : list_at lists v ≡ extended lists node.frame node.below
  pub below : IfSome node.below (λ b. b < v)
  pub base : node.base ≡ (list_at lists v).base
  pub depth : node.depth ≡ length (list_at lists v).frames
  pub shallow : node.depth ≤ v

abbrev pub AreTold : List Node → Type 0
AreTold nodes = (v : ℕ) (node : Node) → slice_get nodes v ≡ Some node → IsNode (lists_of nodes) v node

-- .. and one of the frame and the node below, which is to be added
pub record IsNewNode (lists : List FrameList) (frame : Frame) (below : Option ℕ) (node : Node) : Type 0 where
  pub frame_is : node.frame ≡ frame
  pub below_is : node.below ≡ below
  pub base : node.base ≡ (extended lists frame below).base
  pub depth : node.depth ≡ length (extended lists frame below).frames
  pub shallow : node.depth ≤ length lists

-- states of one layout, whatever they cost
pub record IsSamePlace (one other : NodeState) : Type 0 where
  pub index : one.index ≡ other.index
  pub column : one.column ≡ other.column
  pub node : one.node ≡ other.node

-- a number that states of one layout share, and few others of as many tokens have
abbrev pub state_digest : NodeState → ℕ
state_digest state = digest_with state.column state.node

-- the number under which a node is looked up
abbrev pub below_number : Option ℕ → ℕ
below_number None = 0
below_number (Some b) = b + 1

abbrev pub node_digest : Frame → Option ℕ → ℕ
node_digest frame below = frame_digest (below_number below) frame

-- there is a node at u of the frame and the node below, or there is none there
abbrev pub HasNode : List Node → ℕ → Frame → Option ℕ → Type 0
HasNode nodes u frame below =
    (node : Node) × (slice_get nodes u ≡ Some node) × (node.frame ≡ frame) × (node.below ≡ below)

abbrev pub LacksNode : List Node → ℕ → Frame → Option ℕ → Type 0
LacksNode nodes u frame below =
    (node : Node) → slice_get nodes u ≡ Some node → node.frame ≡ frame → node.below ≡ below → ⊥

-- what a store keeps: each node tells its list and is listed under its digest, and no two nodes have one list
pub record AreShared (nodes : List Node) (group : Chained) : Type 0 where
  pub told : AreTold nodes
  pub listed : (v : ℕ) (node : Node) → slice_get nodes v ≡ Some node → Lists group (node_digest node.frame node.below) v
  pub apart : AreApart (lists_of nodes)
  pub few : length nodes < 2 ^ 32
