-- Nodes of as many tokens, on a chain: what a walk back along it tells, and what another node leaves of it.
use Rattle.std.proofs.Common.{◌≡◌, ◌≢◌, ℕ, ◌+◌, ◌-◌, ◌<◌, ◌≤◌, ◌⊎◌, min, inl, inr, Some, None, List, [], ◌∷◌, ◌++◌}
use Rattle.std.proofs.Common.{length, refl, arith, ap, suc, zero, sym, ◌∙◌, subst, slice_get, slice_set, get_or}
use Rattle.std.proofs.lemmas.Bool.{cases_eq}
use Rattle.std.proofs.lemmas.Option.{slice_get_within, slice_get_read}
use Rattle.frame_store.specs.declared.node.NodeState.{NodeState}
use Rattle.frame_store.specs.Store.{state_digest, IsSamePlace}
use Rattle.frame_store.specs.Chains.{Chained}
use Rattle.frame_store.proofs.Edits.{At, at_set, at_push}
use Rattle.search_nodes.specs.declared.node.Node.{Node}
use Rattle.search_nodes.specs.Groups.{IsGrouped, IsPlaced, IsAmong, IsNear, IsReached, AreReached, IsRank, AreListed}
use Rattle.search_nodes.specs.Groups.{LacksPlace, Misses}

-- nothing is on a chain that ends at 0, or past the nodes
pub among_none : (n : ℕ) (nodes : List Node) (end u : ℕ) → end ≤ 0 → IsAmong n nodes end u → ⊥
among_none zero nodes end u none h = h
among_none (suc n) nodes end u none h = omega (arith, none, h.2)

pub among_past : (n : ℕ) (nodes : List Node) (end at u : ℕ) → end ≡ suc at → slice_get nodes at ≡ None → IsAmong n nodes end u → ⊥
among_past zero nodes end at u e past h = h
among_past (suc n) nodes end at u e past h =
    let same : h.0 ≡ at = omega (arith, e, h.2) in
    let there : None ≡ Some h.1 = sym past ∙ ap (λ (k : ℕ). slice_get nodes k) (sym same) ∙ h.3 in
    absurd (cc)

-- one step back
pub among_back : (nodes : List Node) (n end at u : ℕ) (node : Node) → end ≡ suc at → slice_get nodes at ≡ Some node → IsAmong (suc n) nodes end u → (at ≡ u) ⊎ IsAmong n nodes node.before u
among_back nodes n end at u node e is h =
    let same : h.0 ≡ at = omega (arith, e, h.2) in
    let both : Some h.1 ≡ Some node = sym h.3 ∙ ap (λ (k : ℕ). slice_get nodes k) same ∙ is in
    let one : h.1 ≡ node = cc in
    elim h.4 [
      | inl here ↦ inl (sym same ∙ here)
      | inr rest ↦ inr (subst (λ (m : Node). IsAmong n nodes m.before u) one rest)
    ]

-- what a walk back over the last `count` nodes of a chain tells, of which so many are left: the others have a property
module _ (Done : ℕ → Type 0) (nodes : List Node) (start count : ℕ) where
  abbrev pub IsWalked : ℕ → ℕ → Type 0
  IsWalked end left = (u : ℕ) → IsAmong count nodes start u → Done u ⊎ IsAmong left nodes end u

  pub walk_on : (end left at : ℕ) (node : Node) → IsWalked end left → end ≡ suc at → slice_get nodes at ≡ Some node → (next : ℕ) → left ≡ suc next → Done at → IsWalked node.before next
  walk_on end left at node walked e is next more done u h = elim (walked u h) [
    | inl was ↦ inl was
    | inr rest ↦ elim (among_back nodes next end at u node e is (subst (λ (k : ℕ). IsAmong k nodes end u) more rest)) [
      | inl here ↦ inl (subst (λ (v : ℕ). Done v) here done)
      | inr further ↦ inr further
    ]
  ]

  pub walk_all : (end left : ℕ) → IsWalked end left → (left ≤ 0) ⊎ (end ≤ 0) → (u : ℕ) → IsAmong count nodes start u → Done u
  walk_all end left walked none u h = elim (walked u h) [
    | inl done ↦ done
    | inr rest ↦ elim none [
      | inl no_more ↦ (let zero_left : left ≡ 0 = omega (arith, no_more) in absurd (subst (λ (k : ℕ). IsAmong k nodes end u) zero_left rest))
      | inr ends ↦ absurd (among_none left nodes end u ends rest)
    ]
  ]

  pub walk_past : (end left at : ℕ) → IsWalked end left → end ≡ suc at → slice_get nodes at ≡ None → (u : ℕ) → IsAmong count nodes start u → Done u
  walk_past end left at walked e past u h = elim (walked u h) [ inl done ↦ done | inr rest ↦ absurd (among_past left nodes end at u e past rest) ]

-- a node that doesn't stand where the state does
pub lacks_here : (nodes : List Node) (state : NodeState) (at : ℕ) (node : Node) → slice_get nodes at ≡ Some node → (IsSamePlace node.state state → ⊥) → LacksPlace nodes at state
lacks_here nodes state at node is other n there same =
    let both : Some n ≡ Some node = sym there ∙ is in
    let one : n ≡ node = cc in
    other (subst (λ (m : Node). IsSamePlace m.state state) one same)

-- the node at u, if there is one, is listed
abbrev pub IsListedNode : List Node → List Chained → ℕ → Type 0
IsListedNode nodes groups u = (node : Node) → slice_get nodes u ≡ Some node → IsPlaced groups node.state.index (state_digest node.state) u

pub listed_here : (nodes : List Node) (groups : List Chained) (at : ℕ) (node : Node) → slice_get nodes at ≡ Some node → IsPlaced groups node.state.index (state_digest node.state) at → IsListedNode nodes groups at
listed_here nodes groups at node is placed n there =
    let both : Some node ≡ Some n = sym is ∙ there in
    let one : node ≡ n = cc in
    subst (λ (m : Node). IsPlaced groups m.state.index (state_digest m.state) at) one placed

pub walk_kept : (nodes : List Node) (groups fuller : List Chained) → ((i d u : ℕ) → IsGrouped groups i d u → IsGrouped fuller i d u) → (start count end left : ℕ) → IsWalked (λ (v : ℕ). IsListedNode nodes groups v) nodes start count end left → IsWalked (λ (v : ℕ). IsListedNode nodes fuller v) nodes start count end left
walk_kept nodes groups fuller kept start count end left walked u h = elim (walked u h) [ inl listed ↦ inl (λ node at. kept _ _ u (listed node at)) | inr rest ↦ inr rest ]

-- nodes that keep what is before them, and how many, keep their chains
abbrev KeepsChains : List Node → List Node → Type 0
KeepsChains nodes new = (u : ℕ) (node : Node) → slice_get nodes u ≡ Some node → (now : Node) × (slice_get new u ≡ Some now) × (now.before ≡ node.before) × (now.rank ≡ node.rank)

among_on : (nodes new : List Node) → KeepsChains nodes new → (n end u : ℕ) → IsAmong n nodes end u → IsAmong n new end u
among_on nodes new keeps zero end u h = h
among_on nodes new keeps (suc n) end u h =
    let k = keeps h.0 h.1 h.3 in (
      h.0,
      k.0,
      h.2,
      k.1,
      elim h.4 [
        | inl here ↦ inl here
        | inr rest ↦ inr (subst (λ (e : ℕ). IsAmong n new e u) (sym k.2) (among_on nodes new keeps n h.1.before u rest))
      ],
    )

reached_on : (nodes new : List Node) → KeepsChains nodes new → (groups fuller : List Chained) → ((i d u : ℕ) → IsGrouped groups i d u → IsGrouped fuller i d u) → (ends more : List ℕ) (i d u : ℕ) (h : IsReached nodes groups ends i d u) → slice_get more i ≡ Some h.end → IsReached new fuller more i d u
reached_on nodes new keeps groups fuller kept ends more i d u h at =
    let k = keeps h.last h.node h.there in
    let rank : h.node.rank ≡ k.0.rank = sym k.3 in
    record {
      end = h.end;
      at = at;
      last = h.last;
      node = k.0;
      is_last = h.is_last;
      there = k.1;
      near = elim h.near [
        | inl near ↦ inl (omega (arith, rank, near.0), subst (λ (n : ℕ). IsAmong n new h.end u) rank (among_on nodes new keeps h.node.rank h.end u near.1))
        | inr far ↦ inr (omega (arith, rank, far.0), kept _ _ u far.1)
      ];
    }

-- groups that keep what they list, and chains that end where they ended
pub reached_more : (nodes : List Node) (groups fuller : List Chained) (ends more : List ℕ) → ((i d u : ℕ) → IsGrouped groups i d u → IsGrouped fuller i d u) → ((i end : ℕ) → slice_get ends i ≡ Some end → slice_get more i ≡ Some end) → AreReached nodes groups ends → AreReached nodes fuller more
reached_more nodes groups fuller ends more kept same reached u node at = let h = reached u node at in reached_on nodes nodes (λ v n there. (n, there, refl, refl)) groups fuller kept ends more _ _ u h (same _ h.end h.at)

-- a node that keeps its place, and what is before it, stays reached
pub stays_reached : (nodes new : List Node) (groups : List Chained) (ends : List ℕ) (v : ℕ) (read written : Node) → v < length nodes → read ≡ get_or nodes v read → new ≡ slice_set nodes v written → IsSamePlace written.state read.state → written.before ≡ read.before → written.rank ≡ read.rank → AreReached nodes groups ends → AreReached new groups ends
stays_reached nodes new groups ends v read written within is sets same before rank reached u node at = elim (cases_eq u v) [
  | inr ne ↦ on node.state.index (state_digest node.state) u (reached u node (sym (edit.others u ne) ∙ at))
  | inl e ↦
      let here : Some node ≡ Some written = sym at ∙ ap (λ (w : ℕ). slice_get new w) e ∙ edit.here in
      let is_written : node ≡ written = cc in
      let read_there : slice_get nodes u ≡ Some read = ap (λ (w : ℕ). slice_get nodes w) e ∙ was in
      let index : node.state.index ≡ read.state.index = ap (λ (n : Node). n.state.index) is_written ∙ same.index in
      let digests : state_digest node.state ≡ state_digest read.state =
      ap (λ (n : Node). state_digest n.state) is_written ∙ ap (λ (c : ℕ). state_digest (record { index = written.state.index; column = c; cost = written.state.cost; node = written.state.node })) same.column
      ∙ ap (λ (w : ℕ). state_digest (record { index = written.state.index; column = read.state.column; cost = written.state.cost; node = w })) same.node in
      subst (λ (d : ℕ). IsReached new groups ends node.state.index d u) (sym digests) (subst (λ (i : ℕ). IsReached new groups ends i (state_digest read.state) u) (sym index) (on _ _ u (reached u read read_there)))
]
  where
    edit : At nodes new v written
    edit = subst (λ (ns : List Node). At nodes ns v written) (sym sets) (at_set nodes v written within)

    was : slice_get nodes v ≡ Some read
    was = slice_get_read nodes (length nodes) v read refl within is

    keeps : KeepsChains nodes new
    keeps w m there = elim (cases_eq w v) [
      | inr ne ↦ (m, edit.others w ne ∙ there, refl, refl)
      | inl e ↦
          let both : Some m ≡ Some read = sym there ∙ ap (λ (k : ℕ). slice_get nodes k) e ∙ was in
          let one : m ≡ read = cc in
          (written, ap (λ (k : ℕ). slice_get new k) e ∙ edit.here, before ∙ sym (ap (λ (n : Node). n.before) one), rank ∙ sym (ap (λ (n : Node). n.rank) one))
    ]

    on : (i d u : ℕ) → IsReached nodes groups ends i d u → IsReached new groups ends i d u
    on i d w h = reached_on nodes new keeps groups groups (λ j c k g. g) ends ends i d w h h.at

-- a node is added to the chain that ended at `end`, and that ends with it then
pub pushed_reached : (nodes new : List Node) (groups fuller : List Chained) (ends more : List ℕ) (node : Node) (rank : ℕ) → new ≡ nodes ++ node ∷ [] → ((i d u : ℕ) → IsGrouped groups i d u → IsGrouped fuller i d u) →
    ((end : ℕ) → slice_get ends node.state.index ≡ Some end → node.before ≡ end) → IsRank nodes node.before rank → node.rank ≡ min rank 8 + 1 → (8 ≤ rank → IsPlaced fuller node.state.index (state_digest node.state) (length nodes)) → (rank ≡ 8 → AreListed nodes fuller node.before rank) →
    slice_get more node.state.index ≡ Some (length nodes + 1) → ((i end : ℕ) → i ≢ node.state.index → slice_get ends i ≡ Some end → slice_get more i ≡ Some end) → AreReached nodes groups ends → AreReached new fuller more
pushed_reached nodes new groups fuller ends more node rank pushes kept ended is_rank ranked own listed last others reached u x at = elim (cases_eq u (length nodes)) [
  | inl e ↦
      let here : Some node ≡ Some x = sym edit.here ∙ ap (λ (w : ℕ). slice_get new w) (sym e) ∙ at in
      let is_node : node ≡ x = cc in
      subst (λ (v : ℕ). IsReached new fuller more x.state.index (state_digest x.state) v) (sym e) (subst (λ (n : Node). IsReached new fuller more n.state.index (state_digest n.state) (length nodes)) is_node (ending _ _ own_near))
  | inr ne ↦
      let was : slice_get nodes u ≡ Some x = sym (edit.others u ne) ∙ at in
      let h = reached u x was in
      elim (cases_eq x.state.index node.state.index) [
        | inr apart ↦ reached_on nodes new keeps groups fuller kept ends more _ _ u h (others x.state.index h.end apart h.at)
        | inl same ↦
            let starts : h.end ≡ node.before = sym (ended h.end (ap (λ (i : ℕ). slice_get ends i) (sym same) ∙ h.at)) in
            let ranks : h.node.rank ≡ rank = sym (is_rank h.last h.node (sym starts ∙ h.is_last) h.there) in
            let near : IsNear new fuller x.state.index (state_digest x.state) (suc (length nodes)) node u = elim h.near [
              | inl close ↦
                  let among : IsAmong rank nodes node.before u = subst (λ (n : ℕ). IsAmong n nodes node.before u) ranks (subst (λ (e : ℕ). IsAmong h.node.rank nodes e u) starts close.1) in
                  elim (cases_eq rank 8) [
                    | inl full ↦ inr (omega (arith, ranked, full), listed full u x was among)
                    | inr room ↦
                        let one_more : suc rank ≡ node.rank = omega (arith, ranked, room, close.0, ranks) in
                        inl (omega (arith, one_more, room, close.0, ranks), subst (λ (n : ℕ). IsAmong n new (suc (length nodes)) u) one_more (length nodes, node, refl, edit.here, inr (among_on nodes new keeps rank node.before u among)))
                  ]
              | inr far ↦ inr (omega (arith, ranked, far.0, ranks), kept _ _ u far.1)
            ] in
            subst (λ (i : ℕ). IsReached new fuller more i (state_digest x.state) u) (sym same) (ending _ _ (subst (λ (i : ℕ). IsNear new fuller i (state_digest x.state) (suc (length nodes)) node u) same near))
      ]
]
  where
    edit : At nodes new (length nodes) node
    edit = subst (λ (ns : List Node). At nodes ns (length nodes) node) (sym pushes) (at_push nodes node)

    keeps : KeepsChains nodes new
    keeps w m there = (m, edit.others w (λ e. omega (arith, e, slice_get_within nodes w m there)) ∙ there, refl, refl)

    ends_here : slice_get more node.state.index ≡ Some (suc (length nodes))
    ends_here = last ∙ ap (λ (k : ℕ). Some k) (omega arith)

    ending : (d w : ℕ) → IsNear new fuller node.state.index d (suc (length nodes)) node w → IsReached new fuller more node.state.index d w
    ending d w near = record { end = suc (length nodes); at = ends_here; last = length nodes; node = node; is_last = refl; there = edit.here; near = near }

    cases_small : (r : ℕ) → (r < 8) ⊎ (8 ≤ r)
    cases_small r = elim (cases_eq (8 - r) 0) [ inl e ↦ inr (omega (arith, e)) | inr ne ↦ inl (omega (arith, ne)) ]

    own_near : IsNear new fuller node.state.index (state_digest node.state) (suc (length nodes)) node (length nodes)
    own_near = elim (cases_small rank) [
      | inl small ↦
          let one_more : suc rank ≡ node.rank = omega (arith, ranked, small) in
          inl (omega (arith, one_more, small), subst (λ (n : ℕ). IsAmong n new (suc (length nodes)) (length nodes)) one_more (length nodes, node, refl, edit.here, inl refl))
      | inr large ↦ inr (omega (arith, ranked, large), own large)
    ]

-- a state that no node on its chain has, nor one that is listed, no node that is reached has
pub lacks_reached : (nodes : List Node) (groups : List Chained) (ends : List ℕ) (end rank : ℕ) (state : NodeState) → Misses nodes groups end rank state → ((e : ℕ) → slice_get ends state.index ≡ Some e → end ≡ e) → IsRank nodes end rank → (u : ℕ) → IsReached nodes groups ends state.index (state_digest state) u → LacksPlace nodes u state
lacks_reached nodes groups ends end rank state misses ended is_rank u h =
    let starts : h.end ≡ end = sym (ended h.end h.at) in
    let ranks : h.node.rank ≡ rank = sym (is_rank h.last h.node (sym starts ∙ h.is_last) h.there) in
    elim h.near [
      | inl near ↦ misses.near (omega (arith, near.0, ranks)) u (subst (λ (n : ℕ). IsAmong n nodes end u) ranks (subst (λ (e : ℕ). IsAmong h.node.rank nodes e u) starts near.1))
      | inr far ↦ misses.far (omega (arith, far.0, ranks)) u far.1
    ]

-- the first node of all
pub root_reached : (nodes : List Node) (node : Node) (groups : List Chained) (ends : List ℕ) → nodes ≡ [] → node.rank ≡ 1 → slice_get ends node.state.index ≡ Some (length nodes + 1) → AreReached (nodes ++ node ∷ []) groups ends
root_reached nodes node groups ends none ranked last = subst (λ (ns : List Node). AreReached (ns ++ node ∷ []) groups ends) (sym none) only
  where
    ended : slice_get ends node.state.index ≡ Some 1
    ended = subst (λ (ns : List Node). slice_get ends node.state.index ≡ Some (length ns + 1)) none last

    some_node : (a b : Node) → Some a ≡ Some b → a ≡ b
    some_node a b e = cc

    alone : IsAmong node.rank (node ∷ []) 1 0
    alone = subst (λ (n : ℕ). IsAmong n (node ∷ []) 1 0) (sym ranked) (0, node, refl, refl, inl refl)

    only : AreReached (node ∷ []) groups ends
    only zero x at =
        let is_node : node ≡ x = some_node node x at in
        subst (λ (n : Node). IsReached (node ∷ []) groups ends n.state.index (state_digest n.state) 0) is_node (record { end = 1; at = ended; last = 0; node = node; is_last = refl; there = refl; near = inl (omega (arith, ranked), alone) })
    only (suc u) x at = absurd (omega (arith, slice_get_within (node ∷ []) (suc u) x at))
