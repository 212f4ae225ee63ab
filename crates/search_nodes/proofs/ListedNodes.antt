-- Nodes that a group lists: what a walk along the chain of a digest tells.
use Rattle.std.proofs.Common.{◌≡◌, ℕ, ◌/◌, ◌≤◌, ◌⊎◌, min, suc, inl, inr, Option, Some, None, List, ap, sym, ◌∙◌, subst, slice_get, IfNone}
use Rattle.frame_store.specs.declared.node.NodeState.{NodeState}
use Rattle.frame_store.specs.Digest.{digest_with}
use Rattle.frame_store.specs.Store.{state_digest}
use Rattle.frame_store.specs.declared.group.Link.{Link}
use Rattle.frame_store.specs.Chains.{Chained, IsOnChain, Lists}
use Rattle.frame_store.proofs.Chaining.{chain_back, chain_empty, chain_past}
use Rattle.search_nodes.specs.declared.node.Node.{Node}
use Rattle.search_nodes.specs.Groups.{IsPlaced, LacksPlace}

-- what a walk along a chain leaves to be looked at
abbrev pub IsWalkedTo : List Node → List Link → ℕ → NodeState → ℕ → ℕ → Type 0
IsWalkedTo nodes links digest state start end = (u : ℕ) → IsOnChain links start digest u → LacksPlace nodes u state ⊎ IsOnChain links end digest u

module _ (nodes : List Node) (links : List Link) (digest : ℕ) (state : NodeState) (start end : ℕ) (walked : IsWalkedTo nodes links digest state start end) where
  pub walked_on : (at : ℕ) (link : Link) → end ≡ suc at → slice_get links at ≡ Some link → (link.digest ≡ digest → LacksPlace nodes link.number state) → IsWalkedTo nodes links digest state start (min link.before at)
  walked_on at link e is lacks u h = elim (walked u h) [
    | inl none ↦ inl none
    | inr rest ↦ elim (chain_back links rest.0 end at digest u link e is rest.1) [
      | inl told ↦ inl (subst (λ (v : ℕ). LacksPlace nodes v state) told.1 (lacks told.0))
      | inr more ↦ inr more
    ]
  ]

  pub walked_all : end ≤ 0 → (u : ℕ) → IsOnChain links start digest u → LacksPlace nodes u state
  walked_all none u h = elim (walked u h) [
    | inl lacks ↦ lacks
    | inr rest ↦ absurd (chain_empty links rest.0 end digest u none rest.1)
  ]

  pub walked_past : (at : ℕ) → end ≡ suc at → slice_get links at ≡ None → (u : ℕ) → IsOnChain links start digest u → LacksPlace nodes u state
  walked_past at e past u h = elim (walked u h) [
    | inl lacks ↦ lacks
    | inr rest ↦ absurd (chain_past links rest.0 end at digest u e past rest.1)
  ]

-- the numbers of a group that are listed under a digest
pub lacks_in_group : (nodes : List Node) (groups : List Chained) (state : NodeState) (place digest end : ℕ) (group : Chained) → place ≡ state.index / 32 → digest ≡ digest_with (state_digest state) state.index → slice_get groups place ≡ Some group → ((u : ℕ) → Lists group digest u → IsOnChain group.links end digest u) →
    (o : Option ℕ) → IfNone o ((u : ℕ) → IsOnChain group.links end digest u → LacksPlace nodes u state) → IfNone o ((u : ℕ) → IsPlaced groups state.index (state_digest state) u → LacksPlace nodes u state)
lacks_in_group nodes groups state place digest end group is_place is_digest is chain None none = λ u h.
    let there : Some h.group ≡ Some group = sym h.at ∙ ap (λ (i : ℕ). slice_get groups i) (sym is_place) ∙ is in
    let one : h.group ≡ group = cc in
    let lists : Lists group (digest_with (state_digest state) state.index) u = subst (λ (g : Chained). Lists g (digest_with (state_digest state) state.index) u) one h.has in
    none u (chain u (subst (λ (d : ℕ). Lists group d u) (sym is_digest) lists))
lacks_in_group nodes groups state place digest end group is_place is_digest is chain (Some w) none = tt

pub lacks_no_group : (nodes : List Node) (groups : List Chained) (state : NodeState) (place : ℕ) → place ≡ state.index / 32 → slice_get groups place ≡ None → (u : ℕ) → IsPlaced groups state.index (state_digest state) u → LacksPlace nodes u state
lacks_no_group nodes groups state place is_place past u h =
    let there : None ≡ Some h.group = sym past ∙ ap (λ (i : ℕ). slice_get groups i) is_place ∙ h.at in
    absurd (cc)
