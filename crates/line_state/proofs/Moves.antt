-- The steps of the search keep its table, and its end is the least list of choices.
use Rattle.std.proofs.Common.{◌≡◌, ◌≢◌, ℕ, ◌+◌, ◌*◌, ◌≤◌, ◌<◌, ◌⊎◌, inl, inr, Bool, true, false, Option, Some, List, [], ◌∷◌, length, refl, arith, ap, sym, ◌∙◌, subst, suc, zero, slice_get}
use Rattle.std.proofs.lemmas.Bool.{cases_eq}
use Rattle.std.proofs.lemmas.List.{append-nil}
use Rattle.line_state.specs.Choices.{Leads, IsLeast}
use Rattle.line_state.proofs.Ways.{bit, rank, Reached, AtMost, AtMost-refl, AtMost-trans, AtMost-step, onto, length-onto, Reached-onto, Leads-onto, IsNotAfter-rank, onto-onto}
use Rattle.line_state.proofs.Bounds.{IsBound}
use Rattle.line_state.proofs.Dominance.{Dominates, dominates_itself, dominates_over, IsFunctional, StepsOver, steps_over}
use Rattle.line_state.proofs.Cover.{Knows, OnTheWay, covered}
use Rattle.line_state.proofs.Table.{Vertex, path, path_by, Puts, HasParent, HaveParents, IsOpen, path-Puts, path-put, Known, Has, IsSound, IsTable, Nothing, IsNext, IsLayered, best_of_next, expanded}
use Rattle.line_state.proofs.Updates.{Fits, put_in}

true-false : {S : Type 0} (vertex : Vertex S) → vertex.settled ≡ true → vertex.settled ≡ false → ⊥
true-false vertex a b = cc

-- the vertex, settled
abbrev pub settled_vertex : {S : Type 0} → Vertex S → Vertex S
settled_vertex vertex = record { state = vertex.state; cost = vertex.cost; depth = vertex.depth; parent = vertex.parent; brk = vertex.brk; settled = true }

from_left : {S : Type 0} (step : S → Bool → S → ℕ → Type 0) (root s : S) (c : ℕ) (whole : List Bool) → Leads step root whole s c → Reached step root (onto whole []) s c
from_left step root s c whole h = let e : 0 + c ≡ c = omega arith in
    subst (λ (d : ℕ). Reached step root (onto whole []) s d) e (Reached-onto step root root s 0 c [] whole (refl, refl) h)

path-again : {S : Type 0} (vertices new_vertices : List (Vertex S)) (w : ℕ) (vertex : Vertex S) → Puts vertices new_vertices w (settled_vertex vertex) → IsOpen vertices w → HaveParents vertices → slice_get vertices w ≡ Some vertex →
    (d : ℕ) → vertex.depth ≡ d → path new_vertices d w ≡ path vertices d w
path-again vertices new_vertices w vertex p o up at zero deep = refl
path-again {S} vertices new_vertices w vertex p o up at (suc d) deep =
    let h : HasParent vertices vertex = up w vertex at (omega arith) in
    let apart : vertex.parent ≢ w = λ e. true-false h.up h.settled (o h.up (subst (λ (x : ℕ). slice_get vertices x ≡ Some h.up) e h.at)) in
    let less : h.up.depth ≡ d = omega (arith, h.depth) in
    let below : path new_vertices d vertex.parent ≡ path vertices d vertex.parent = path-Puts vertices new_vertices w (settled_vertex vertex) p o up d vertex.parent h.up apart h.at less in
    let one : path new_vertices (suc d) w ≡ vertex.brk ∷ path new_vertices d vertex.parent = ap (λ (x : Option (Vertex S)). path_by (path new_vertices d) x) p.here in
    let two : path vertices (suc d) w ≡ vertex.brk ∷ path vertices d vertex.parent = ap (λ (x : Option (Vertex S)). path_by (path vertices d) x) at in
    one ∙ ap (λ (x : List Bool). vertex.brk ∷ x) below ∙ sym two

-- the choices at the vertex v are still to be followed
abbrev pub AllOf : ℕ → ℕ → Bool → Type 0
AllOf v u b = u ≡ v

-- .. the choice b and those after it
abbrev pub From : ℕ → Bool → ℕ → Bool → Type 0
From v b u c = (u ≡ v) × (bit b ≤ bit c)

-- .. those after b
abbrev pub After : ℕ → Bool → ℕ → Bool → Type 0
After v b u c = (u ≡ v) × (bit b < bit c)

-- the vertex that a step from v by b makes
abbrev pub vertex_of : {S : Type 0} → ℕ → Vertex S → Bool → S → ℕ → Vertex S
vertex_of v vertex b t k = record { state = t; cost = vertex.cost + k; depth = suc vertex.depth; parent = v; brk = b; settled = false }

module _ {S : Type 0} (step : S → Bool → S → ℕ → Type 0) (low : S → ℕ) (root : S) (n : ℕ) where
  pub settle : IsFunctional step → IsBound step low root n → IsLayered step root n → (vertices new_vertices : List (Vertex S)) (v : ℕ) (vertex : Vertex S) → IsTable step low root n vertices Nothing → slice_get vertices v ≡ Some vertex → vertex.settled ≡ false →
      IsNext step low root n vertices vertex → Puts vertices new_vertices v (settled_vertex vertex) → IsTable step low root n new_vertices (AllOf v)
  settle functional bound layered vertices new_vertices v vertex t at free first p =
      put_in step low root n vertices new_vertices v (settled_vertex vertex) Nothing t fits (AllOf v) (λ u b ne out x here flag deep. inl (λ z. z)) (λ flag deep b out s k go. absurd (out refl))
    where
      is_open : IsOpen vertices v
      is_open old there = let e : Some old ≡ Some vertex = sym there ∙ at in let same : old ≡ vertex = cc in ap (λ (x : Vertex S). x.settled) same ∙ free

      same_path : path new_vertices vertex.depth v ≡ path vertices vertex.depth v
      same_path = path-again vertices new_vertices v vertex p is_open t.parents at vertex.depth refl

      fits : Fits step low root n vertices new_vertices v (settled_vertex vertex)
      fits = record {
        puts = p;
        open_before = is_open;
        sound = (let s = t.sound v vertex at in record {
          reaches = subst (λ (r : List Bool). Reached step root r vertex.state vertex.cost) (sym same_path) s.reaches;
          deep = ap length same_path ∙ s.deep;
          short = s.short;
        });
        parent = (λ deep. let h = t.parents v vertex at deep in record { up = h.up; at = h.at; settled = h.settled; depth = h.depth });
        apart = λ u other ne there same. ne (t.apart u v other vertex there at same);
        best = λ flag r c short h. best_of_next step low root n functional bound layered vertices t v vertex at free first r c short h;
        keeps = λ old there. (let e : Some old ≡ Some vertex = sym there ∙ at in let same : old ≡ vertex = cc in (
          ap (λ (x : Vertex S). x.state) same,
          ap (λ (x : Vertex S). x.depth) same,
          subst (λ (x : Vertex S). AtMost vertex.cost (rank (path new_vertices vertex.depth v)) x.cost (rank (path vertices x.depth v))) (sym same)
              (subst (λ (q : List Bool). AtMost vertex.cost (rank q) vertex.cost (rank (path vertices vertex.depth v))) (sym same_path) (AtMost-refl vertex.cost (rank (path vertices vertex.depth v)))),
        ));
      }

  -- fewer choices are left where each that goes is there already
  pub fewer : (vertices : List (Vertex S)) (Left Left' : ℕ → Bool → Type 0) → IsTable step low root n vertices Left →
      ((u : ℕ) (b : Bool) → (Left' u b → ⊥) → (x : Vertex S) → slice_get vertices u ≡ Some x → x.settled ≡ true → x.depth < n →
      (Left u b → ⊥) ⊎ ((s : S) (k : ℕ) → step x.state b s k → Has step low root n vertices s (x.cost + k) (b ∷ path vertices x.depth u))) → IsTable step low root n vertices Left'
  fewer vertices Left Left' t less = record {
    first = t.first;
    sound = t.sound;
    parents = t.parents;
    apart = t.apart;
    best = t.best;
    next = λ v vertex at flag deep b out s k go. elim (less v b out vertex at flag deep) [ inl free ↦ t.next v vertex at flag deep b free s k go | inr found ↦ found s k go ];
  }

  -- a settled vertex that is dominated by another that is no worse, and has been followed, needs not be
  pub drop : IsFunctional step → (vertices : List (Vertex S)) (v w : ℕ) (vertex other : Vertex S) → IsTable step low root n vertices (AllOf v) → slice_get vertices v ≡ Some vertex → slice_get vertices w ≡ Some other → w ≢ v →
      other.settled ≡ true → other.depth ≡ vertex.depth → Dominates step low other.state vertex.state → AtMost other.cost (rank (path vertices other.depth w)) vertex.cost (rank (path vertices vertex.depth v)) → IsTable step low root n vertices Nothing
  drop functional vertices v w vertex other t at there ne flag level over good = fewer vertices (AllOf v) Nothing t less
    where
      moved : (settled : Bool) (z s : S) (k l : ℕ) (b : Bool) → l ≤ k → Dominates step low z s → Knows step low root n (Known step low root n vertices) settled z (other.cost + l) (b ∷ path vertices other.depth w) →
          Knows step low root n (Known step low root n vertices) settled s (vertex.cost + k) (b ∷ path vertices vertex.depth v)
      moved settled z s k l b cheap up h = record {
        layout = h.layout;
        over = dominates_over step low h.layout z s h.over up;
        cost = h.cost;
        choices = h.choices;
        known = h.known;
        deep = omega (arith, h.deep, (t.sound v vertex at).deep, (t.sound w other there).deep, level);
        good = AtMost-trans h.cost (rank h.choices) (other.cost + l) (rank (b ∷ path vertices other.depth w)) (vertex.cost + k) (rank (b ∷ path vertices vertex.depth v)) h.good
            (AtMost-step other.cost (rank (path vertices other.depth w)) vertex.cost (rank (path vertices vertex.depth v)) k l (bit b) good cheap);
      }

      found : vertex.depth < n → (b : Bool) (s : S) (k : ℕ) → step vertex.state b s k → Has step low root n vertices s (vertex.cost + k) (b ∷ path vertices vertex.depth v)
      found deep b s k go =
          let o : StepsOver step low other.state b s k = steps_over step low functional other.state vertex.state s b k over go in
          elim (t.next w other there flag (omega (arith, level, deep)) b ne o.other o.cost o.go) [
            | inl h ↦ inl (moved false o.other s k o.cost b o.cheap o.over h)
            | inr h ↦ inr (moved true o.other s k o.cost b o.cheap o.over h)
          ]

      less : (u : ℕ) (b : Bool) → (Nothing u b → ⊥) → (x : Vertex S) → slice_get vertices u ≡ Some x → x.settled ≡ true → x.depth < n →
          (AllOf v u b → ⊥) ⊎ ((s : S) (k : ℕ) → step x.state b s k → Has step low root n vertices s (x.cost + k) (b ∷ path vertices x.depth u))
      less u b out x here settled deep = elim (cases_eq u v) [
        | inr apart ↦ inl apart
        | inl e ↦ inr (λ s k go.
            let same_at : Some x ≡ Some vertex = sym here ∙ ap (λ (y : ℕ). slice_get vertices y) e ∙ at in
            let same : x ≡ vertex = cc in
            subst (λ (y : ℕ). Has step low root n vertices s (x.cost + k) (b ∷ path vertices x.depth y)) (sym e)
            (subst (λ (y : Vertex S). Has step low root n vertices s (y.cost + k) (b ∷ path vertices y.depth v)) (sym same)
            (found (subst (λ (y : Vertex S). y.depth < n) same deep) b s k (subst (λ (y : Vertex S). step y.state b s k) same go))))
      ]

  -- a step from a settled vertex is put where it is new, or better than an open vertex of its layout
  pub relax : IsFunctional step → (vertices new_vertices : List (Vertex S)) (v w : ℕ) (vertex : Vertex S) (b : Bool) (t : S) (k : ℕ) (Left Left' : ℕ → Bool → Type 0) → IsTable step low root n vertices Left →
      slice_get vertices v ≡ Some vertex → vertex.settled ≡ true → vertex.depth < n → step vertex.state b t k → Puts vertices new_vertices w (vertex_of v vertex b t k) →
      ((u : ℕ) (other : Vertex S) → slice_get vertices u ≡ Some other → other.state ≡ t → u ≡ w) →
      ((old : Vertex S) → slice_get vertices w ≡ Some old → (old.settled ≡ false) × (old.state ≡ t) × (old.depth ≡ suc vertex.depth) ×
      AtMost (vertex.cost + k) (2 * rank (path vertices vertex.depth v) + bit b) old.cost (rank (path vertices old.depth w))) →
      ((u : ℕ) (c : Bool) → (Left' u c → ⊥) → (Left u c → ⊥) ⊎ ((u ≡ v) × (c ≡ b))) →
      IsTable step low root n new_vertices Left'
  relax functional vertices new_vertices v w vertex b t k Left Left' table at flag deep go p one old_is goes =
      put_in step low root n vertices new_vertices w (vertex_of v vertex b t k) Left table fits Left' less (λ no. absurd (false-true no))
    where
      false-true : false ≡ true → ⊥
      false-true e = cc

      is_open : IsOpen vertices w
      is_open old there = (old_is old there).0

      new_path : path new_vertices (suc vertex.depth) w ≡ b ∷ path vertices vertex.depth v
      new_path = path-put vertices new_vertices w (vertex_of v vertex b t k) p is_open table.parents v vertex at flag refl refl

      fits : Fits step low root n vertices new_vertices w (vertex_of v vertex b t k)
      fits = record {
        puts = p;
        open_before = is_open;
        sound = (let s = table.sound v vertex at in record {
          reaches = subst (λ (r : List Bool). Reached step root r t (vertex.cost + k)) (sym new_path) (vertex.state, vertex.cost, k, s.reaches, go, refl);
          deep = omega (arith, ap length new_path, s.deep);
          short = omega (arith, deep);
        });
        parent = λ _. record { up = vertex; at = at; settled = flag; depth = refl };
        apart = λ u other ne there same. ne (one u other there same);
        best = λ no. absurd (false-true no);
        keeps = λ old there. (let o = old_is old there in (
          o.1,
          o.2,
          subst (λ (q : List Bool). AtMost (vertex.cost + k) (rank q) old.cost (rank (path vertices old.depth w))) (sym new_path) o.3,
        ));
      }

      found : Has step low root n new_vertices t (vertex.cost + k) (b ∷ path vertices vertex.depth v)
      found = inl (record {
        layout = t;
        over = dominates_itself step low t;
        cost = vertex.cost + k;
        choices = b ∷ path vertices vertex.depth v;
        known = record { id = w; vertex = vertex_of v vertex b t k; at = p.here; flag = refl; state = refl; cost = refl; path = new_path };
        deep = refl;
        good = AtMost-refl (vertex.cost + k) (rank (b ∷ path vertices vertex.depth v));
      })

      less : (u : ℕ) (c : Bool) → u ≢ w → (Left' u c → ⊥) → (x : Vertex S) → slice_get vertices u ≡ Some x → x.settled ≡ true → x.depth < n →
          (Left u c → ⊥) ⊎ ((s : S) (l : ℕ) → step x.state c s l → Has step low root n new_vertices s (x.cost + l) (c ∷ path vertices x.depth u))
      less u c ne out x there settled short = elim (goes u c out) [
        | inl free ↦ inl free
        | inr both ↦ inr (λ s l h.
            let e : Some x ≡ Some vertex = sym there ∙ ap (λ (y : ℕ). slice_get vertices y) both.0 ∙ at in
            let same : x ≡ vertex = cc in
            let h' : step vertex.state b s l = subst (λ (c : Bool). step vertex.state c s l) both.1 (subst (λ (y : Vertex S). step y.state c s l) same h) in
            let eq : (t ≡ s) × (k ≡ l) = functional vertex.state b t s k l go h' in
            subst (λ (c : Bool). Has step low root n new_vertices s (x.cost + l) (c ∷ path vertices x.depth u)) (sym both.1)
            (subst (λ (y : ℕ). Has step low root n new_vertices s (x.cost + l) (b ∷ path vertices x.depth y)) (sym both.0)
            (subst (λ (y : Vertex S). Has step low root n new_vertices s (y.cost + l) (b ∷ path vertices y.depth v)) (sym same)
            (subst (λ (y : ℕ). Has step low root n new_vertices s (vertex.cost + y) (b ∷ path vertices vertex.depth v)) eq.1
            (subst (λ (y : S). Has step low root n new_vertices y (vertex.cost + k) (b ∷ path vertices vertex.depth v)) eq.0 found)))))
      ]

  -- the end: the best settled vertex at the depth n, with nothing open that can cost as little
  pub found_least : IsFunctional step → IsBound step low root n → (vertices : List (Vertex S)) (v : ℕ) (vertex : Vertex S) → IsTable step low root n vertices Nothing → slice_get vertices v ≡ Some vertex → vertex.depth ≡ n →
      ((u : ℕ) (x : Vertex S) → slice_get vertices u ≡ Some x → x.settled ≡ true → x.depth ≡ n → AtMost vertex.cost (rank (path vertices vertex.depth v)) x.cost (rank (path vertices x.depth u))) →
      ((u : ℕ) (x : Vertex S) → slice_get vertices u ≡ Some x → x.settled ≡ false → vertex.cost < x.cost + low x.state) →
      IsLeast step root n (onto (path vertices vertex.depth v) []) vertex.cost
  found_least functional bound vertices v vertex t at deep best dear = record {
    reaches = (vertex.state, subst (λ (c : ℕ). Leads step root (onto (path vertices vertex.depth v) []) vertex.state c) (omega arith) (Leads-onto step root vertex.state vertex.state vertex.cost 0 (path vertices vertex.depth v) [] sound.reaches (refl, refl)));
    count = omega (arith, length-onto (path vertices vertex.depth v) [], sound.deep, deep);
    least = λ other s c len h. (any_other other s c len h).cost;
    first = λ other s len h.
        let r : List Bool = onto other [] in
        let a = any_other other s vertex.cost len h in
        let back : onto (onto (path vertices vertex.depth v) []) [] ≡ path vertices vertex.depth v = onto-onto (path vertices vertex.depth v) [] [] ∙ append-nil (path vertices vertex.depth v) in
        let sizes : length (onto (path vertices vertex.depth v) []) ≡ length other = omega (arith, length-onto (path vertices vertex.depth v) [], sound.deep, deep, len) in
        IsNotAfter-rank (onto (path vertices vertex.depth v) []) other [] [] sizes refl (omega (arith, ap rank back, a.tie refl));
  }
    where
      sound : IsSound step low root n vertices v vertex
      sound = t.sound v vertex at

      any_other : (other : List Bool) (s : S) (c : ℕ) → length other ≡ n → Leads step root other s c → AtMost vertex.cost (rank (path vertices vertex.depth v)) c (rank (onto other []))
      any_other other s c len h =
          let there : Reached step root (onto other []) s c = from_left step root s c other h in
          let size : length (onto other []) ≡ n = omega (arith, length-onto other [], len) in
          elim (covered step low root n (Known step low root n vertices) functional bound (expanded step low root n vertices t) s c (onto other []) (omega arith) there) [
            | inl k ↦
                let whole : k.known.vertex.depth ≡ n = omega (arith, k.deep, size, ap length k.known.path, (t.sound k.known.id k.known.vertex k.known.at).deep) in
                let b = best k.known.id k.known.vertex k.known.at k.known.flag whole in
                record {
                  cost = omega (arith, b.cost, k.known.cost, k.good.cost);
                  tie = λ e.
                      let c1 : vertex.cost ≡ k.known.vertex.cost = omega (arith, b.cost, k.known.cost, k.good.cost, e) in
                      let c2 : k.cost ≡ c = omega (arith, b.cost, k.known.cost, k.good.cost, e) in
                      omega (arith, b.tie c1, ap rank k.known.path, k.good.tie c2);
                }
            | inr w ↦ absurd_or size there w
          ]
        where
          absurd_or : length (onto other []) ≡ n → Reached step root (onto other []) s c → OnTheWay step low root n (Known step low root n vertices) s c (onto other []) → AtMost vertex.cost (rank (path vertices vertex.depth v)) c (rank (onto other []))
          absurd_or size there w =
              let o : Known step low root n vertices false w.at w.cost w.choices = w.known in
              let more : vertex.cost < o.vertex.cost + low o.vertex.state = dear o.id o.vertex o.at o.flag in
              let none : low s ≡ 0 = bound.ends (onto other []) s c size there in
              let above : vertex.cost < c = omega (arith, more, o.cost, ap low o.state, w.cheap, none) in
              record { cost = omega (arith, above); tie = λ e. absurd (omega (arith, above, e)) }

  -- the next vertex costs no more than any whole list of choices, its bound counted
  pub next_within : IsFunctional step → IsBound step low root n → (vertices : List (Vertex S)) (vertex : Vertex S) → IsTable step low root n vertices Nothing → IsNext step low root n vertices vertex →
      ((u : ℕ) (x : Vertex S) → slice_get vertices u ≡ Some x → x.settled ≡ true → x.depth ≡ n → vertex.cost ≤ x.cost) →
      (whole : List Bool) (s : S) (c : ℕ) → length whole ≡ n → Leads step root whole s c → vertex.cost ≤ c
  next_within functional bound vertices vertex t first ends whole s c len h =
      let there : Reached step root (onto whole []) s c = from_left step root s c whole h in
      let size : length (onto whole []) ≡ n = omega (arith, length-onto whole [], len) in
      elim (covered step low root n (Known step low root n vertices) functional bound (expanded step low root n vertices t) s c (onto whole []) (omega arith) there) [
        | inl k ↦
            let deep : k.known.vertex.depth ≡ n = omega (arith, k.deep, size, ap length k.known.path, (t.sound k.known.id k.known.vertex k.known.at).deep) in
            omega (arith, ends k.known.id k.known.vertex k.known.at k.known.flag deep, k.known.cost, k.good.cost)
        | inr w ↦ let o : Known step low root n vertices false w.at w.cost w.choices = w.known in omega (arith, first.cost o.id o.vertex o.at o.flag, o.cost, ap low o.state, w.cheap, bound.ends (onto whole []) s c size there)
      ]

  -- where nothing is open and no whole list was settled, there is none
  pub none_open : IsFunctional step → IsBound step low root n → (vertices : List (Vertex S)) → IsTable step low root n vertices Nothing → ((u : ℕ) (x : Vertex S) → slice_get vertices u ≡ Some x → (x.settled ≡ true) × (x.depth ≡ n → ⊥)) →
      (whole : List Bool) (s : S) (c : ℕ) → length whole ≡ n → Leads step root whole s c → ⊥
  none_open functional bound vertices t all whole s c len h =
      let there : Reached step root (onto whole []) s c = from_left step root s c whole h in
      let size : length (onto whole []) ≡ n = omega (arith, length-onto whole [], len) in
      elim (covered step low root n (Known step low root n vertices) functional bound (expanded step low root n vertices t) s c (onto whole []) (omega arith) there) [
        | inl k ↦
            let deep : k.known.vertex.depth ≡ n = omega (arith, k.deep, size, ap length k.known.path, (t.sound k.known.id k.known.vertex k.known.at).deep) in
            (all k.known.id k.known.vertex k.known.at).1 deep
        | inr w ↦ let o : Known step low root n vertices false w.at w.cost w.choices = w.known in true-false o.vertex (all o.id o.vertex o.at).0 o.flag
      ]
