-- Where nodes are found: on the chain of as many tokens, and where that is long in a group for some numbers of placed
-- tokens that follow each other.
use Rattle.std.specs.Prelude.{◌≡◌, ℕ, ◌/◌, ◌<◌, ◌≤◌, ◌⊎◌, Some, List, slice_get, zero, suc}
use Rattle.frame_store.specs.declared.node.NodeState.{NodeState}
use Rattle.frame_store.specs.Digest.{digest_with}
use Rattle.frame_store.specs.Store.{IsSamePlace, state_digest}
use Rattle.frame_store.specs.Chains.{Chained, Lists}
use Rattle.search_nodes.specs.declared.node.Node.{Node}

-- the group at a place lists the number under its digest
pub record IsGrouped (groups : List Chained) (place digest u : ℕ) : Type 0 where
  pub group : Chained
  pub at : slice_get groups place ≡ Some group
  pub has : Lists group digest u

-- the group of so many tokens lists the number under their number and another digest
abbrev pub IsPlaced : List Chained → ℕ → ℕ → ℕ → Type 0
IsPlaced groups index digest u = IsGrouped groups (index / 32) (digest_with digest index) u

-- the chain of nodes that ends there, behind its last node, has the one at u among its last n
abbrev pub IsAmong : ℕ → List Node → ℕ → ℕ → Type 0
IsAmong zero nodes end u = ⊥
IsAmong (suc n) nodes end u =
    (at : ℕ) × (node : Node) × (end ≡ suc at) × (slice_get nodes at ≡ Some node)
    × ((at ≡ u) ⊎ IsAmong n nodes node.before u)

-- the chain that ends there with the node has the one at u; where it has more than eight, that one is listed
abbrev pub IsNear : List Node → List Chained → ℕ → ℕ → ℕ → Node → ℕ → Type 0
IsNear nodes groups index digest end node u =
    ((node.rank ≤ 8) × IsAmong node.rank nodes end u) ⊎ ((8 < node.rank) × IsPlaced groups index digest u)

-- the chain of so many tokens has the node at u
pub record IsReached (nodes : List Node) (groups : List Chained) (ends : List ℕ) (index digest u : ℕ) : Type 0 where
  pub end : ℕ
  pub at : slice_get ends index ≡ Some end
  pub last : ℕ
  pub node : Node
  pub is_last : end ≡ suc last
  pub there : slice_get nodes last ≡ Some node
  pub near : IsNear nodes groups index digest end node u

-- each node is reached under its index and its state's digest
abbrev pub AreReached : List Node → List Chained → List ℕ → Type 0
AreReached nodes groups ends =
    (u : ℕ) (node : Node) → slice_get nodes u ≡ Some node →
    IsReached nodes groups ends node.state.index (state_digest node.state) u

-- what the last node of a chain tells of how many it has
abbrev pub IsRank : List Node → ℕ → ℕ → Type 0
IsRank nodes end rank = (last : ℕ) (node : Node) → end ≡ suc last → slice_get nodes last ≡ Some node → rank ≡ node.rank

-- there is a node at u, and it stands where the state does
abbrev pub HasPlace : List Node → ℕ → NodeState → Type 0
HasPlace nodes u state = (node : Node) × (slice_get nodes u ≡ Some node) × IsSamePlace node.state state

-- the node at u, if there is one, doesn't
abbrev pub LacksPlace : List Node → ℕ → NodeState → Type 0
LacksPlace nodes u state = (node : Node) → slice_get nodes u ≡ Some node → IsSamePlace node.state state → ⊥

-- the last nodes of a chain are listed in the groups of their indexes, under these and their states' digests
abbrev pub AreListed : List Node → List Chained → ℕ → ℕ → Type 0
AreListed nodes groups end count =
    (u : ℕ) (node : Node) → slice_get nodes u ≡ Some node → IsAmong count nodes end u →
    IsPlaced groups node.state.index (state_digest node.state) u

-- no node on the chain of the state's index, or none that is listed where that is long, stands where the state does
pub record Misses (nodes : List Node) (groups : List Chained) (end rank : ℕ) (state : NodeState) : Type 0 where
  pub near : rank ≤ 8 → (u : ℕ) → IsAmong rank nodes end u → LacksPlace nodes u state
  pub far : 8 < rank → (u : ℕ) → IsPlaced groups state.index (state_digest state) u → LacksPlace nodes u state
