-- A table stays a table when one vertex that is not settled gets a better way, is settled, or is new.
use Rattle.std.proofs.Common.{◌≡◌, ◌≢◌, ℕ, ◌+◌, ◌≤◌, ◌<◌, ◌⊎◌, inl, inr, Bool, true, false, Some, List, [], ◌∷◌, length, refl, arith, ap, sym, ◌∙◌, subst, slice_get}
use Rattle.std.proofs.lemmas.Bool.{cases_eq}
use Rattle.line_state.proofs.Ways.{rank, Reached, AtMost, AtMost-trans}
use Rattle.line_state.proofs.Cover.{Knows}
use Rattle.line_state.proofs.Table.{Vertex, path, Puts, HasParent, HaveParents, IsOpen, path-Puts, Known, Has, IsSound, IsTable}

true-false : {S : Type 0} (vertex : Vertex S) → vertex.settled ≡ true → vertex.settled ≡ false → ⊥
true-false vertex a b = cc

-- at w the new vertex, elsewhere an old one
pub data Where {S : Type 0} (vertices : List (Vertex S)) (w : ℕ) (new : Vertex S) (u : ℕ) (x : Vertex S) : Type 0 where
  here : u ≡ w → x ≡ new → Where vertices w new u x
  there : u ≢ w → slice_get vertices u ≡ Some x → Where vertices w new u x

pub where_is : {S : Type 0} (vertices new_vertices : List (Vertex S)) (w : ℕ) (new : Vertex S) → Puts vertices new_vertices w new → (u : ℕ) (x : Vertex S) → slice_get new_vertices u ≡ Some x → Where vertices w new u x
where_is {S} vertices new_vertices w new p u x at = elim cases_at [
  | inl e ↦ here e (let h : Some x ≡ Some new = sym at ∙ ap (λ (y : ℕ). slice_get new_vertices y) e ∙ p.here in cc)
  | inr ne ↦ there ne (sym (p.others u ne) ∙ at)
]
  where
    cases_at : (u ≡ w) ⊎ (u ≢ w)
    cases_at = cases_eq u w

module _ {S : Type 0} (step : S → Bool → S → ℕ → Type 0) (low : S → ℕ) (root : S) (n : ℕ) where
  -- what a vertex that is put has to bring
  pub record Fits (vertices new_vertices : List (Vertex S)) (w : ℕ) (new : Vertex S) : Type 0 where
    pub puts : Puts vertices new_vertices w new
    pub open_before : IsOpen vertices w
    pub sound : IsSound step low root n new_vertices w new
    pub parent : 0 < new.depth → HasParent vertices new
    pub apart : (u : ℕ) (other : Vertex S) → u ≢ w → slice_get vertices u ≡ Some other → other.state ≡ new.state → ⊥
    pub best : new.settled ≡ true → (r : List Bool) (c : ℕ) → length r ≤ n → Reached step root r new.state c → Has step low root n vertices new.state c r
    pub keeps : (old : Vertex S) → slice_get vertices w ≡ Some old → (old.state ≡ new.state) × (old.depth ≡ new.depth) × AtMost new.cost (rank (path new_vertices new.depth w)) old.cost (rank (path vertices old.depth w))

  has_flag : (vertices : List (Vertex S)) (settled : Bool) (s : S) (c : ℕ) (r : List Bool) → Knows step low root n (Known step low root n vertices) settled s c r → Has step low root n vertices s c r
  has_flag vertices true s c r k = inr k
  has_flag vertices false s c r k = inl k

  module _ (vertices new_vertices : List (Vertex S)) (w : ℕ) (new : Vertex S) (Left : ℕ → Bool → Type 0) (t : IsTable step low root n vertices Left) (f : Fits vertices new_vertices w new) where
    same_path : (u : ℕ) (x : Vertex S) → u ≢ w → slice_get vertices u ≡ Some x → path new_vertices x.depth u ≡ path vertices x.depth u
    same_path u x ne at = path-Puts vertices new_vertices w new f.puts f.open_before t.parents x.depth u x ne at refl

    still : (u : ℕ) (x : Vertex S) → u ≢ w → slice_get vertices u ≡ Some x → slice_get new_vertices u ≡ Some x
    still u x ne at = f.puts.others u ne ∙ at

    pub still_knows : (settled : Bool) (s : S) (c : ℕ) (r : List Bool) → Knows step low root n (Known step low root n vertices) settled s c r → Has step low root n new_vertices s c r
    still_knows settled s c r k = elim (cases_eq k.known.id w) [
      | inl e ↦ at_new e
      | inr ne ↦ has_flag new_vertices settled s c r (record {
        layout = k.layout;
        over = k.over;
        cost = k.cost;
        choices = k.choices;
        deep = k.deep;
        good = k.good;
        known = record {
          id = k.known.id;
          vertex = k.known.vertex;
          at = still k.known.id k.known.vertex ne k.known.at;
          flag = k.known.flag;
          state = k.known.state;
          cost = k.known.cost;
          path = same_path k.known.id k.known.vertex ne k.known.at ∙ k.known.path;
        };
      })
    ]
      where
        at_new : k.known.id ≡ w → Has step low root n new_vertices s c r
        at_new e =
            let old : Vertex S = k.known.vertex in
            let at : slice_get vertices w ≡ Some old = sym (ap (λ (y : ℕ). slice_get vertices y) e) ∙ k.known.at in
            let better = f.keeps old at in
            let was : path vertices old.depth w ≡ k.choices = subst (λ (y : ℕ). path vertices old.depth y ≡ k.choices) e k.known.path in
            let ranks : rank (path vertices old.depth w) ≡ rank k.choices = ap rank was in
            let first : AtMost new.cost (rank (path new_vertices new.depth w)) k.cost (rank k.choices) = record {
              cost = omega (arith, better.2.cost, k.known.cost);
              tie = λ same. let one : new.cost ≡ old.cost = omega (arith, same, k.known.cost) in omega (arith, better.2.tie one, ranks);
            } in
            has_flag new_vertices new.settled s c r (record {
              layout = k.layout;
              over = k.over;
              cost = new.cost;
              choices = path new_vertices new.depth w;
              known = record { id = w; vertex = new; at = f.puts.here; flag = refl; state = sym better.0 ∙ k.known.state; cost = refl; path = refl };
              deep = omega (arith, f.sound.deep, better.1, (t.sound w old at).deep, ap length was, k.deep);
              good = AtMost-trans new.cost (rank (path new_vertices new.depth w)) k.cost (rank k.choices) c (rank r) first k.good;
            })

    pub still_has : (s : S) (c : ℕ) (r : List Bool) → Has step low root n vertices s c r → Has step low root n new_vertices s c r
    still_has s c r h = elim h [ inl k ↦ still_knows false s c r k | inr k ↦ still_knows true s c r k ]

    sound_there : (u : ℕ) (x : Vertex S) → u ≢ w → slice_get vertices u ≡ Some x → IsSound step low root n new_vertices u x
    sound_there u x ne at =
        let old = t.sound u x at in
        let e : path vertices x.depth u ≡ path new_vertices x.depth u = sym (same_path u x ne at) in
        record { reaches = subst (λ (r : List Bool). Reached step root r x.state x.cost) e old.reaches; deep = subst (λ (r : List Bool). length r ≡ x.depth) e old.deep; short = old.short }

    new_sound : (u : ℕ) (x : Vertex S) → slice_get new_vertices u ≡ Some x → IsSound step low root n new_vertices u x
    new_sound u x at = elim (where_is vertices new_vertices w new f.puts u x at) [
      | here e same ↦ subst (λ (y : Vertex S). IsSound step low root n new_vertices u y) (sym same) (subst (λ (v : ℕ). IsSound step low root n new_vertices v new) (sym e) f.sound)
      | there ne old ↦ sound_there u x ne old
    ]

    parent_stays : (x : Vertex S) → HasParent vertices x → HasParent new_vertices x
    parent_stays x h =
        let apart : x.parent ≢ w = λ e. true-false h.up h.settled (f.open_before h.up (subst (λ (y : ℕ). slice_get vertices y ≡ Some h.up) e h.at)) in
        record { up = h.up; at = still x.parent h.up apart h.at; settled = h.settled; depth = h.depth }

    new_parents : HaveParents new_vertices
    new_parents u x at deep = elim (where_is vertices new_vertices w new f.puts u x at) [
      | here e same ↦ subst (λ (y : Vertex S). HasParent new_vertices y) (sym same) (parent_stays new (f.parent (subst (λ (y : Vertex S). 0 < y.depth) same deep)))
      | there ne old ↦ parent_stays x (t.parents u x old deep)
    ]

    new_apart : (u v : ℕ) (a b : Vertex S) → slice_get new_vertices u ≡ Some a → slice_get new_vertices v ≡ Some b → a.state ≡ b.state → u ≡ v
    new_apart u v a b at bt same = elim (where_is vertices new_vertices w new f.puts u a at) [
      | here e ea ↦ elim (where_is vertices new_vertices w new f.puts v b bt) [
        | here e2 eb ↦ e ∙ sym e2
        | there ne old ↦ absurd (f.apart v b ne old (sym same ∙ ap (λ (x : Vertex S). x.state) ea))
      ]
      | there ne old ↦ elim (where_is vertices new_vertices w new f.puts v b bt) [
        | here e2 eb ↦ absurd (f.apart u a ne old (same ∙ ap (λ (x : Vertex S). x.state) eb))
        | there ne2 old2 ↦ t.apart u v a b old old2 same
      ]
    ]

    new_best : (u : ℕ) (x : Vertex S) → slice_get new_vertices u ≡ Some x → x.settled ≡ true → (r : List Bool) (c : ℕ) → length r ≤ n → Reached step root r x.state c → Has step low root n new_vertices x.state c r
    new_best u x at settled r c short h = elim (where_is vertices new_vertices w new f.puts u x at) [
      | here e same ↦
          let states : x.state ≡ new.state = ap (λ (y : Vertex S). y.state) same in
          let flag : new.settled ≡ true = sym (ap (λ (y : Vertex S). y.settled) same) ∙ settled in
          subst (λ (z : S). Has step low root n new_vertices z c r) (sym states) (still_has new.state c r (f.best flag r c short (subst (λ (z : S). Reached step root r z c) states h)))
      | there ne old ↦ still_has x.state c r (t.best u x old settled r c short h)
    ]

    -- the table with the new vertex
    pub put_in : (Left' : ℕ → Bool → Type 0) → ((u : ℕ) (b : Bool) → u ≢ w → (Left' u b → ⊥) → (x : Vertex S) → slice_get vertices u ≡ Some x → x.settled ≡ true → x.depth < n →
        (Left u b → ⊥) ⊎ ((s : S) (k : ℕ) → step x.state b s k → Has step low root n new_vertices s (x.cost + k) (b ∷ path vertices x.depth u))) →
        (new.settled ≡ true → new.depth < n → (b : Bool) → (Left' w b → ⊥) → (s : S) (k : ℕ) → step new.state b s k → Has step low root n new_vertices s (new.cost + k) (b ∷ path new_vertices new.depth w)) →
        IsTable step low root n new_vertices Left'
    put_in Left' less more = record { first = still_has root 0 [] t.first; sound = new_sound; parents = new_parents; apart = new_apart; best = new_best; next = go }
      where
        go : (u : ℕ) (x : Vertex S) → slice_get new_vertices u ≡ Some x → x.settled ≡ true → x.depth < n → (b : Bool) → (Left' u b → ⊥) → (s : S) (k : ℕ) → step x.state b s k →
            Has step low root n new_vertices s (x.cost + k) (b ∷ path new_vertices x.depth u)
        go u x at settled deep b not_left s k h = elim (where_is vertices new_vertices w new f.puts u x at) [
          | here e same ↦
              let flag : new.settled ≡ true = sym (ap (λ (y : Vertex S). y.settled) same) ∙ settled in
              let less_n : new.depth < n = subst (λ (y : Vertex S). y.depth < n) same deep in
              let out : Left' w b → ⊥ = λ z. not_left (subst (λ (v : ℕ). Left' v b) (sym e) z) in
              let h' : step new.state b s k = subst (λ (y : Vertex S). step y.state b s k) same h in
              subst (λ (y : Vertex S). Has step low root n new_vertices s (y.cost + k) (b ∷ path new_vertices y.depth u)) (sym same)
              (subst (λ (v : ℕ). Has step low root n new_vertices s (new.cost + k) (b ∷ path new_vertices new.depth v)) (sym e) (more flag less_n b out s k h'))
          | there ne old ↦
              subst (λ (q : List Bool). Has step low root n new_vertices s (x.cost + k) (b ∷ q)) (sym (same_path u x ne old))
              (elim (less u b ne not_left x old settled deep) [
                | inl free ↦ still_has s (x.cost + k) (b ∷ path vertices x.depth u) (t.next u x old settled deep b free s k h)
                | inr found ↦ found s k h
              ])
        ]
