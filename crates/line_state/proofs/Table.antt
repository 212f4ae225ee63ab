-- The table of a search: a vertex for each layout that was met, with its least known cost and the vertex before it.
use Rattle.std.proofs.Common.{◌≡◌, ◌≢◌, ℕ, ◌+◌, ◌≤◌, ◌<◌, ◌⊎◌, inl, inr, Bool, true, false, Option, Some, None, List, [], ◌∷◌, length, refl, arith, ap, sym, ◌∙◌, subst, suc, zero, slice_get}
use Rattle.std.proofs.lemmas.Bool.{cases_eq}
use Rattle.line_state.proofs.Ways.{rank, Reached, AtMost}
use Rattle.line_state.proofs.Bounds.{IsBound}
use Rattle.line_state.proofs.Dominance.{Dominates, dominates_itself, IsFunctional}
use Rattle.line_state.proofs.Cover.{Knows, OnTheWay, IsExpanded, covered}

pub record Vertex (S : Type 0) : Type 0 where
  pub state : S
  pub cost : ℕ
  pub depth : ℕ
  pub parent : ℕ
  pub brk : Bool
  pub settled : Bool

abbrev pub path_by : {S : Type 0} → (ℕ → List Bool) → Option (Vertex S) → List Bool
path_by f None = []
path_by f (Some vertex) = vertex.brk ∷ f vertex.parent

-- the choices that lead to a vertex, the last one first
abbrev pub path : {S : Type 0} → List (Vertex S) → ℕ → ℕ → List Bool
path vertices zero v = []
path vertices (suc d) v = path_by (path vertices d) (slice_get vertices v)

-- the table is as before but for one vertex, which was not settled
pub record Puts {S : Type 0} (vertices new_vertices : List (Vertex S)) (w : ℕ) (new : Vertex S) : Type 0 where
  pub here : slice_get new_vertices w ≡ Some new
  pub others : (u : ℕ) → u ≢ w → slice_get new_vertices u ≡ slice_get vertices u

-- a vertex's parent is a settled vertex, one choice less deep
pub record HasParent {S : Type 0} (vertices : List (Vertex S)) (vertex : Vertex S) : Type 0 where
  pub up : Vertex S
  pub at : slice_get vertices vertex.parent ≡ Some up
  pub settled : up.settled ≡ true
  pub depth : suc up.depth ≡ vertex.depth

abbrev pub HaveParents : {S : Type 0} → List (Vertex S) → Type 0
HaveParents {S} vertices = (v : ℕ) (vertex : Vertex S) → slice_get vertices v ≡ Some vertex → 0 < vertex.depth → HasParent vertices vertex

-- the vertex at w, if there is one, is not settled
abbrev pub IsOpen : {S : Type 0} → List (Vertex S) → ℕ → Type 0
IsOpen {S} vertices w = (old : Vertex S) → slice_get vertices w ≡ Some old → old.settled ≡ false

true-false : {S : Type 0} (vertex : Vertex S) → vertex.settled ≡ true → vertex.settled ≡ false → ⊥
true-false vertex a b = cc

pub path-Puts : {S : Type 0} (vertices new_vertices : List (Vertex S)) (w : ℕ) (new : Vertex S) → Puts vertices new_vertices w new → IsOpen vertices w → HaveParents vertices →
    (d v : ℕ) (vertex : Vertex S) → v ≢ w → slice_get vertices v ≡ Some vertex → vertex.depth ≡ d → path new_vertices d v ≡ path vertices d v
path-Puts vertices new_vertices w new p o up zero v vertex ne at deep = refl
path-Puts {S} vertices new_vertices w new p o up (suc d) v vertex ne at deep =
    let h : HasParent vertices vertex = up v vertex at (omega arith) in
    let apart : vertex.parent ≢ w = λ e. true-false h.up h.settled (o h.up (subst (λ (x : ℕ). slice_get vertices x ≡ Some h.up) e h.at)) in
    let less : h.up.depth ≡ d = omega (arith, h.depth) in
    let below : path new_vertices d vertex.parent ≡ path vertices d vertex.parent = path-Puts vertices new_vertices w new p o up d vertex.parent h.up apart h.at less in
    let one : path new_vertices (suc d) v ≡ vertex.brk ∷ path new_vertices d vertex.parent = ap (λ (x : Option (Vertex S)). path_by (path new_vertices d) x) (p.others v ne ∙ at) in
    let two : path vertices (suc d) v ≡ vertex.brk ∷ path vertices d vertex.parent = ap (λ (x : Option (Vertex S)). path_by (path vertices d) x) at in
    one ∙ ap (λ (x : List Bool). vertex.brk ∷ x) below ∙ sym two

-- the path of a vertex that was put over a settled parent
pub path-put : {S : Type 0} (vertices new_vertices : List (Vertex S)) (w : ℕ) (new : Vertex S) → Puts vertices new_vertices w new → IsOpen vertices w → HaveParents vertices →
    (v : ℕ) (vertex : Vertex S) → slice_get vertices v ≡ Some vertex → vertex.settled ≡ true → new.parent ≡ v → new.depth ≡ suc vertex.depth → path new_vertices new.depth w ≡ new.brk ∷ path vertices vertex.depth v
path-put {S} vertices new_vertices w new p o up v vertex at settled parent deep =
    let apart : v ≢ w = λ e. true-false vertex settled (o vertex (subst (λ (x : ℕ). slice_get vertices x ≡ Some vertex) e at)) in
    let below : path new_vertices vertex.depth v ≡ path vertices vertex.depth v = path-Puts vertices new_vertices w new p o up vertex.depth v vertex apart at refl in
    let one : path new_vertices (suc vertex.depth) w ≡ new.brk ∷ path new_vertices vertex.depth new.parent = ap (λ (x : Option (Vertex S)). path_by (path new_vertices vertex.depth) x) p.here in
    ap (λ (d : ℕ). path new_vertices d w) deep ∙ one ∙ ap (λ (x : ℕ). new.brk ∷ path new_vertices vertex.depth x) parent ∙ ap (λ (x : List Bool). new.brk ∷ x) below

-- nothing is left to be followed
abbrev pub Nothing : ℕ → Bool → Type 0
Nothing v b = ⊥

module _ {S : Type 0} (step : S → Bool → S → ℕ → Type 0) (root : S) (n : ℕ) where
  -- as many choices lead to a layout, whichever they are
  abbrev pub IsLayered : Type 0
  IsLayered = (r q : List Bool) (s : S) (c d : ℕ) → Reached step root r s c → Reached step root q s d → length r ≡ length q

module _ {S : Type 0} (step : S → Bool → S → ℕ → Type 0) (low : S → ℕ) (root : S) (n : ℕ) where
  -- some vertex has this layout, this cost and this path
  pub record Known (vertices : List (Vertex S)) (settled : Bool) (s : S) (c : ℕ) (r : List Bool) : Type 0 where
    pub id : ℕ
    pub vertex : Vertex S
    pub at : slice_get vertices id ≡ Some vertex
    pub flag : vertex.settled ≡ settled
    pub state : vertex.state ≡ s
    pub cost : vertex.cost ≡ c
    pub path : path vertices vertex.depth id ≡ r

  -- some vertex dominates the layout, and is at least as good as the choices r at the cost c
  abbrev pub Has : List (Vertex S) → S → ℕ → List Bool → Type 0
  Has vertices s c r = Knows step low root n (Known vertices) false s c r ⊎ Knows step low root n (Known vertices) true s c r

  pub record IsSound (vertices : List (Vertex S)) (v : ℕ) (vertex : Vertex S) : Type 0 where
    pub reaches : Reached step root (path vertices vertex.depth v) vertex.state vertex.cost
    pub deep : length (path vertices vertex.depth v) ≡ vertex.depth
    pub short : vertex.depth ≤ n

  -- `Left v b`: the choice b at the settled vertex v is still to be followed
  pub record IsTable (vertices : List (Vertex S)) (Left : ℕ → Bool → Type 0) : Type 0 where
    pub first : Knows step low root n (Known vertices) false root 0 [] ⊎ Knows step low root n (Known vertices) true root 0 []
    pub sound : (v : ℕ) (vertex : Vertex S) → slice_get vertices v ≡ Some vertex → IsSound vertices v vertex
    pub parents : HaveParents vertices
    pub apart : (v w : ℕ) (a b : Vertex S) → slice_get vertices v ≡ Some a → slice_get vertices w ≡ Some b → a.state ≡ b.state → v ≡ w
    pub best : (v : ℕ) (vertex : Vertex S) → slice_get vertices v ≡ Some vertex → vertex.settled ≡ true → (r : List Bool) (c : ℕ) → length r ≤ n → Reached step root r vertex.state c → Has vertices vertex.state c r
    pub next : (v : ℕ) (vertex : Vertex S) → slice_get vertices v ≡ Some vertex → vertex.settled ≡ true → vertex.depth < n → (b : Bool) → (Left v b → ⊥) → (t : S) (k : ℕ) → step vertex.state b t k →
        Has vertices t (vertex.cost + k) (b ∷ path vertices vertex.depth v)

  pub expanded : (vertices : List (Vertex S)) → IsTable vertices Nothing → IsExpanded step low root n (Known vertices)
  expanded vertices t = record {
    start = t.first;
    next = λ s u c k r b h less go.
        let deep : h.vertex.depth < n = omega (arith, ap length h.path, (t.sound h.id h.vertex h.at).deep, less) in
        let go' : step h.vertex.state b u k = subst (λ x. step x b u k) (sym h.state) go in
        let found : Has vertices u (h.vertex.cost + k) (b ∷ path vertices h.vertex.depth h.id) = t.next h.id h.vertex h.at h.flag deep b (λ z. z) u k go' in
        subst (λ (x : ℕ). Has vertices u (x + k) (b ∷ r)) h.cost (subst (λ (x : List Bool). Has vertices u (h.vertex.cost + k) (b ∷ x)) h.path found);
  }

  -- no open vertex stands before this one in the order of cost and bound, then of depth
  pub record IsNext (vertices : List (Vertex S)) (vertex : Vertex S) : Type 0 where
    pub cost : (u : ℕ) (other : Vertex S) → slice_get vertices u ≡ Some other → other.settled ≡ false → vertex.cost + low vertex.state ≤ other.cost + low other.state
    pub depth : (u : ℕ) (other : Vertex S) → slice_get vertices u ≡ Some other → other.settled ≡ false → other.cost + low other.state ≡ vertex.cost + low vertex.state → vertex.depth ≤ other.depth

  -- no choices to the layout of the open vertex that comes first are better than what is known
  pub best_of_next : IsFunctional step → IsBound step low root n → IsLayered step root n → (vertices : List (Vertex S)) → IsTable vertices Nothing → (v : ℕ) (vertex : Vertex S) → slice_get vertices v ≡ Some vertex → vertex.settled ≡ false → IsNext vertices vertex →
      (r : List Bool) (c : ℕ) → length r ≤ n → Reached step root r vertex.state c → Has vertices vertex.state c r
  best_of_next functional bound layered vertices t v vertex at free first r c short h =
      elim (covered step low root n (Known vertices) functional bound (expanded vertices t) vertex.state c r short h) [
        | inl k ↦ inr k
        | inr w ↦ inl (elim (cases_eq vertex.cost c) [ inl e ↦ tied w e | inr ne ↦ cheaper w ne ])
      ]
    where
      len : length (path vertices vertex.depth v) ≡ length r
      len = layered (path vertices vertex.depth v) r vertex.state vertex.cost c (t.sound v vertex at).reaches h

      tied : OnTheWay step low root n (Known vertices) vertex.state c r → vertex.cost ≡ c → Knows step low root n (Known vertices) false vertex.state c r
      tied w e =
          let o : Known vertices false w.at w.cost w.choices = w.known in
          let c1 : o.vertex.cost + low o.vertex.state ≡ vertex.cost + low vertex.state = omega (arith, first.cost o.id o.vertex o.at o.flag, o.cost, ap low o.state, w.cheap, e) in
          let d1 : vertex.depth ≤ o.vertex.depth = first.depth o.id o.vertex o.at o.flag c1 in
          let l2 : length w.choices ≡ length r = omega (arith, w.depth, d1, len, (t.sound v vertex at).deep, (t.sound o.id o.vertex o.at).deep, ap length o.path) in
          let both : Dominates step low w.at vertex.state × AtMost w.cost (rank w.choices) c (rank r) = w.same l2 in
          record { layout = w.at; over = both.0; cost = w.cost; choices = w.choices; known = o; deep = l2; good = both.1 }

      cheaper : OnTheWay step low root n (Known vertices) vertex.state c r → vertex.cost ≢ c → Knows step low root n (Known vertices) false vertex.state c r
      cheaper w ne =
          let o : Known vertices false w.at w.cost w.choices = w.known in
          let le : vertex.cost ≤ c = omega (arith, first.cost o.id o.vertex o.at o.flag, o.cost, ap low o.state, w.cheap) in
          record {
            layout = vertex.state;
            over = dominates_itself step low vertex.state;
            cost = vertex.cost;
            choices = path vertices vertex.depth v;
            known = record { id = v; vertex = vertex; at = at; flag = free; state = refl; cost = refl; path = refl };
            deep = len;
            good = record { cost = le; tie = λ e. absurd (ne e) };
          }
