-- What a store keeps, and what is found in it.
use Rattle.std.proofs.Common.{◌≡◌, ℕ, ◌+◌, ◌<◌, ◌≤◌, ◌^◌, ◌⊎◌, min, zero, suc, inl, inr, Option, Some, None, List, []}
use Rattle.std.proofs.Common.{◌∷◌, ◌++◌, length, refl, arith, ap, sym, ◌∙◌, subst, slice_get, IfSome}
use Rattle.std.proofs.lemmas.Bool.{cases_eq}
use Rattle.std.proofs.lemmas.List.{length-append}
use Rattle.std.proofs.lemmas.Option.{slice_get_within}
use Rattle.frame_store.specs.declared.group.Link.{Link}
use Rattle.frame_store.specs.Chains.{Chained, Lists, IsOnChain}
use Rattle.frame_store.proofs.Edits.{At, at_push}
use Rattle.frame_store.proofs.Chaining.{chain_back, chain_empty, chain_past}
use Rattle.frame_store.specs.declared.frames.Frame.{Frame}
use Rattle.frame_store.specs.declared.node.Node.{Node}
use Rattle.frame_store.specs.Store.{FrameList, list_at, extended, lists_of, IsKnown, AreApart, IsNowhere, IsGrown}
use Rattle.frame_store.specs.Store.{IsNode, IsNewNode, AreTold, HasNode, LacksNode, AreShared, node_digest}
use Rattle.frame_store.proofs.Lists.{lists_length, lists_push, grown_push, pushed_at, extended_grown}
use Rattle.frame_store.proofs.Lists.{extended_injective, apart_push}

-- the node at a place of the store
pub node_there : (nodes : List Node) (v : ℕ) → v < length nodes → (node : Node) × (slice_get nodes v ≡ Some node)
node_there nodes v less = by_option (slice_get nodes v) refl
  where
    some_within : (nodes : List Node) (v : ℕ) → v < length nodes → slice_get nodes v ≡ None → ⊥
    some_within [] v h e = omega arith
    some_within (n ∷ ns) zero h e = let w : None ≡ Some n = sym e in cc
    some_within (n ∷ ns) (suc v) h e = some_within ns v (omega arith) e

    by_option : (o : Option Node) → slice_get nodes v ≡ o → (node : Node) × (slice_get nodes v ≡ Some node)
    by_option None e = absurd (some_within nodes v less e)
    by_option (Some node) e = (node, e)

pub within_store : (nodes : List Node) (lists : List FrameList) → lists_of nodes ≡ lists → (v : ℕ) → v < length lists → v < length nodes
within_store nodes lists view v less = omega (arith, less, ap length view, lists_length nodes)

pub few_lists : (nodes : List Node) (group : Chained) (lists : List FrameList) → lists_of nodes ≡ lists → AreShared nodes group → (v : ℕ) → v < length lists → v < 2 ^ 32
few_lists nodes group lists view shared v less = omega (arith, within_store nodes lists view v less, shared.few)

pub told_at : (nodes : List Node) (group : Chained) (lists : List FrameList) → lists_of nodes ≡ lists → AreShared nodes group → (v : ℕ) (node : Node) → slice_get nodes v ≡ Some node → IsNode lists v node
told_at nodes group lists view shared v node at = subst (λ (ls : List FrameList). IsNode ls v node) view (shared.told v node at)

-- what a node says of its list holds as nodes are added
node_grown : (lists more : List FrameList) → IsGrown lists more → (v : ℕ) (node : Node) → v < length lists → IsNode lists v node → IsNode more v node
node_grown lists more grown v node less is = record {
  list = grown.kept v less ∙ is.list ∙ sym (extended_grown lists more grown node.frame node.below (known node.below is.below));
  below = is.below;
  base = is.base ∙ ap (λ (l : FrameList). l.base) (sym (grown.kept v less));
  depth = is.depth ∙ ap (λ (l : FrameList). length l.frames) (sym (grown.kept v less));
  shallow = is.shallow;
}
  where
    known : (o : Option ℕ) → IfSome o (λ b. b < v) → IsKnown lists o
    known None h = tt
    known (Some b) h = omega (arith, h, less)

-- a node that differs from what is looked for
pub lacks_node : (nodes : List Node) (u : ℕ) (frame : Frame) (below : Option ℕ) (node : Node) → slice_get nodes u ≡ Some node → (node.frame ≡ frame → node.below ≡ below → ⊥) → LacksNode nodes u frame below
lacks_node nodes u frame below node at differs other there frames belows =
    let here : Some node ≡ Some other = sym at ∙ there in
    let same : node ≡ other = cc in
    differs (ap (λ (n : Node). n.frame) same ∙ frames) (ap (λ (n : Node). n.below) same ∙ belows)

-- a node that the store has
pub found_known : (nodes : List Node) (lists : List FrameList) → lists_of nodes ≡ lists → (u : ℕ) (frame : Frame) (below : Option ℕ) → HasNode nodes u frame below → u < length lists
found_known nodes lists view u frame below h = omega (arith, slice_get_within nodes u h.0 h.1, ap length view, lists_length nodes)

pub found_list : (nodes : List Node) (group : Chained) (lists : List FrameList) → lists_of nodes ≡ lists → AreShared nodes group → (u : ℕ) (frame : Frame) (below : Option ℕ) → HasNode nodes u frame below → list_at lists u ≡ extended lists frame below
found_list nodes group lists view shared u frame below h = (told_at nodes group lists view shared u h.0 h.1).list ∙ ap (λ (f : Frame). extended lists f h.0.below) h.2 ∙ ap (λ (b : Option ℕ). extended lists frame b) h.3

-- where the chain of its digest lacks a node, no node has its list
pub nowhere : (nodes : List Node) (group : Chained) (lists : List FrameList) → lists_of nodes ≡ lists → AreShared nodes group → (frame : Frame) (below : Option ℕ) → IsKnown lists below → (digest end : ℕ) → digest ≡ node_digest frame below →
    ((u : ℕ) → Lists group digest u → IsOnChain group.links end digest u) → ((u : ℕ) → IsOnChain group.links end digest u → LacksNode nodes u frame below) → IsNowhere lists (extended lists frame below)
nowhere nodes group lists view shared frame below known digest end is_digest chain lacks v less e =
    let n = node_there nodes v (within_store nodes lists view v less) in
    let node : Node = n.0 in
    let is : IsNode lists v node = told_at nodes group lists view shared v node n.1 in
    let apart : AreApart lists = subst AreApart view shared.apart in
    let same = extended_injective lists apart node.frame frame node.below below (below_known node.below is.below) known (sym is.list ∙ e) in
    let digests : node_digest node.frame node.below ≡ digest = ap (λ (f : Frame). node_digest f node.below) same.0 ∙ ap (λ (b : Option ℕ). node_digest frame b) same.1 ∙ sym is_digest in
    let listed : Lists group digest v = subst (λ (d : ℕ). Lists group d v) digests (shared.listed v node n.1) in
    lacks v (chain v listed) node n.1 same.0 same.1
  where
    below_known : (o : Option ℕ) → IfSome o (λ b. b < v) → IsKnown lists o
    below_known None h = tt
    below_known (Some b) h = omega (arith, h, less)

-- a group that lists more
pub shared_more : (nodes : List Node) (group fuller : Chained) → ((d u : ℕ) → Lists group d u → Lists fuller d u) → AreShared nodes group → AreShared nodes fuller
shared_more nodes group fuller kept shared = record { told = shared.told; listed = λ v node at. kept _ v (shared.listed v node at); apart = shared.apart; few = shared.few }

-- a node more
module _ (nodes : List Node) (group fuller : Chained) (node : Node) (frame : Frame) (below : Option ℕ) (shared : AreShared nodes group) (is : IsNewNode (lists_of nodes) frame below node) (known : IsKnown (lists_of nodes) below) (new : IsNowhere (lists_of nodes) (extended (lists_of nodes) frame below))
    (kept : (d u : ℕ) → Lists group d u → Lists fuller d u) (added : Lists fuller (node_digest frame below) (length nodes)) (few : length nodes + 1 < 2 ^ 32) where
  lists : List FrameList
  lists = lists_of nodes

  more : List FrameList
  more = lists_of (nodes ++ node ∷ [])

  pub pushed_lists : lists_of (nodes ++ node ∷ []) ≡ lists_of nodes ++ extended (lists_of nodes) frame below ∷ []
  pushed_lists = lists_push nodes node ∙ ap (λ (f : Frame). lists_of nodes ++ extended (lists_of nodes) f node.below ∷ []) is.frame_is ∙ ap (λ (b : Option ℕ). lists_of nodes ++ extended (lists_of nodes) frame b ∷ []) is.below_is

  grown : IsGrown (lists_of nodes) (lists_of (nodes ++ node ∷ []))
  grown = subst (λ (ls : List FrameList). IsGrown (lists_of nodes) ls) (sym pushed_lists) (grown_push (lists_of nodes) (extended (lists_of nodes) frame below))

  here : list_at (lists_of (nodes ++ node ∷ [])) (length nodes) ≡ extended (lists_of nodes) frame below
  here = ap (λ (k : ℕ). list_at (lists_of (nodes ++ node ∷ [])) k) (sym (lists_length nodes)) ∙ ap (λ (ls : List FrameList). list_at ls (length (lists_of nodes))) pushed_lists ∙ pushed_at (lists_of nodes) (extended (lists_of nodes) frame below)

  below_less : (o : Option ℕ) → o ≡ below → IfSome o (λ b. b < length nodes)
  below_less None e = tt
  below_less (Some b) e = omega (arith, subst (λ (o : Option ℕ). IsKnown (lists_of nodes) o) (sym e) known, lists_length nodes)

  told_new : IsNode (lists_of (nodes ++ node ∷ [])) (length nodes) node
  told_new = record {
    list = here ∙ sym (extended_grown (lists_of nodes) (lists_of (nodes ++ node ∷ [])) grown frame below known) ∙ ap (λ (f : Frame). extended (lists_of (nodes ++ node ∷ [])) f below) (sym is.frame_is) ∙ ap (λ (b : Option ℕ). extended (lists_of (nodes ++ node ∷ [])) node.frame b) (sym is.below_is);
    below = below_less node.below is.below_is;
    base = is.base ∙ ap (λ (l : FrameList). l.base) (sym here);
    depth = is.depth ∙ ap (λ (l : FrameList). length l.frames) (sym here);
    shallow = omega (arith, is.shallow, lists_length nodes);
  }

  edit : At nodes (nodes ++ node ∷ []) (length nodes) node
  edit = at_push nodes node

  told : AreTold (nodes ++ node ∷ [])
  told v x at = elim (cases_eq v (length nodes)) [
    | inr ne ↦
        let was : slice_get nodes v ≡ Some x = sym (edit.others v ne) ∙ at in
        node_grown (lists_of nodes) (lists_of (nodes ++ node ∷ [])) grown v x (omega (arith, slice_get_within nodes v x was, lists_length nodes)) (shared.told v x was)
    | inl e ↦
        let both : Some node ≡ Some x = sym edit.here ∙ ap (λ (w : ℕ). slice_get (nodes ++ node ∷ []) w) (sym e) ∙ at in
        let same : node ≡ x = cc in
        subst (λ (w : ℕ). IsNode (lists_of (nodes ++ node ∷ [])) w x) (sym e) (subst (λ (n : Node). IsNode (lists_of (nodes ++ node ∷ [])) (length nodes) n) same told_new)
  ]

  listed : (v : ℕ) (x : Node) → slice_get (nodes ++ node ∷ []) v ≡ Some x → Lists fuller (node_digest x.frame x.below) v
  listed v x at = elim (cases_eq v (length nodes)) [
    | inr ne ↦ kept _ v (shared.listed v x (sym (edit.others v ne) ∙ at))
    | inl e ↦
        let both : Some node ≡ Some x = sym edit.here ∙ ap (λ (w : ℕ). slice_get (nodes ++ node ∷ []) w) (sym e) ∙ at in
        let same : node ≡ x = cc in
        let digests : node_digest frame below ≡ node_digest x.frame x.below =
        ap (λ (f : Frame). node_digest f below) (sym is.frame_is) ∙ ap (λ (b : Option ℕ). node_digest node.frame b) (sym is.below_is) ∙ ap (λ (n : Node). node_digest n.frame n.below) same in
        subst (λ (w : ℕ). Lists fuller (node_digest x.frame x.below) w) (sym e) (subst (λ (d : ℕ). Lists fuller d (length nodes)) digests added)
  ]

  pub shared_push : AreShared (nodes ++ node ∷ []) fuller
  shared_push = record {
    told = told;
    listed = listed;
    apart = subst AreApart (sym pushed_lists) (apart_push (lists_of nodes) (extended (lists_of nodes) frame below) shared.apart new);
    few = omega (arith, few, length-append nodes (node ∷ []));
  }

-- what a walk along a chain leaves to be looked at
abbrev pub IsWalkedTo : List Node → List Link → ℕ → Frame → Option ℕ → ℕ → ℕ → Type 0
IsWalkedTo nodes links digest frame below start end = (u : ℕ) → IsOnChain links start digest u → LacksNode nodes u frame below ⊎ IsOnChain links end digest u

module _ (nodes : List Node) (links : List Link) (digest : ℕ) (frame : Frame) (below : Option ℕ) (start end : ℕ) (walked : IsWalkedTo nodes links digest frame below start end) where
  pub walked_on : (at : ℕ) (link : Link) → end ≡ suc at → slice_get links at ≡ Some link → (link.digest ≡ digest → LacksNode nodes link.number frame below) → IsWalkedTo nodes links digest frame below start (min link.before at)
  walked_on at link e is lacks u h = elim (walked u h) [
    | inl none ↦ inl none
    | inr rest ↦ elim (chain_back links rest.0 end at digest u link e is rest.1) [
      | inl told ↦ inl (subst (λ (v : ℕ). LacksNode nodes v frame below) told.1 (lacks told.0))
      | inr more ↦ inr more
    ]
  ]

  pub walked_all : end ≤ 0 → (u : ℕ) → IsOnChain links start digest u → LacksNode nodes u frame below
  walked_all none u h = elim (walked u h) [
    | inl lacks ↦ lacks
    | inr rest ↦ absurd (chain_empty links rest.0 end digest u none rest.1)
  ]

  pub walked_past : (at : ℕ) → end ≡ suc at → slice_get links at ≡ None → (u : ℕ) → IsOnChain links start digest u → LacksNode nodes u frame below
  walked_past at e past u h = elim (walked u h) [
    | inl lacks ↦ lacks
    | inr rest ↦ absurd (chain_past links rest.0 end at digest u e past rest.1)
  ]

-- a store of no nodes
pub no_lists : lists_of [] ≡ []
unfolding lists_of
no_lists = refl

pub shared_none : (group : Chained) → AreShared [] group
unfolding lists_of
shared_none group = record {
  told = (λ v node at. absurd (omega (arith, slice_get_within [] v node at)));
  listed = (λ v node at. absurd (omega (arith, slice_get_within [] v node at)));
  apart = (λ u v less other e. absurd (omega (arith, less)));
  few = omega arith;
}

-- the node to be added on another
pub on_node : (lists : List FrameList) (frame : Frame) (under : ℕ) (node : Node) → under < length lists → IsNode lists under node → IsNewNode lists frame (Some under) (record { frame = frame; below = Some under; base = node.base; depth = node.depth + 1 })
on_node lists frame under node less is = record {
  frame_is = refl;
  below_is = refl;
  base = is.base;
  depth = omega (arith, is.depth, length-append (list_at lists under).frames (frame ∷ []));
  shallow = omega (arith, is.shallow, less);
}

-- the list of a node that is read
pub is_base : (lists : List FrameList) (v : ℕ) (node : Node) → IsNode lists v node → node.below ≡ None → list_at lists v ≡ record { base = node.frame; frames = [] }
is_base lists v node is e = is.list ∙ ap (λ (o : Option ℕ). extended lists node.frame o) e

pub is_on : (lists : List FrameList) (v b : ℕ) (node : Node) → IsNode lists v node → node.below ≡ Some b → list_at lists v ≡ record { base = (list_at lists b).base; frames = (list_at lists b).frames ++ node.frame ∷ [] }
is_on lists v b node is e = is.list ∙ ap (λ (o : Option ℕ). extended lists node.frame o) e

pub is_on_less : (lists : List FrameList) (v b : ℕ) (node : Node) → IsNode lists v node → node.below ≡ Some b → b < v
is_on_less lists v b node is e = subst (λ (o : Option ℕ). IfSome o (λ w. w < v)) e is.below
