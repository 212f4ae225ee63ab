-- Whatever a list of choices reaches is dominated by something settled at no worse, or something open stands on the way to it.
use Rattle.std.proofs.Common.{◌≡◌, ℕ, ◌+◌, ◌≤◌, ◌<◌, ◌⊎◌, inl, inr, Bool, true, false, List, [], ◌∷◌, length, arith, sym, subst}
use Rattle.line_state.proofs.Ways.{bit, rank, Reached, AtMost, AtMost-trans, AtMost-step}
use Rattle.line_state.proofs.Bounds.{IsBound}
use Rattle.line_state.proofs.Dominance.{Dominates, dominates_over, IsFunctional, StepsOver, steps_over}

module _ {S : Type 0} (step : S → Bool → S → ℕ → Type 0) (low : S → ℕ) (root : S) (n : ℕ) (Known : Bool → S → ℕ → List Bool → Type 0) where
  -- a known layout that dominates s, and is at least as good as the choices r at the cost c
  pub record Knows (settled : Bool) (s : S) (c : ℕ) (r : List Bool) : Type 0 where
    pub layout : S
    pub over : Dominates step low layout s
    pub cost : ℕ
    pub choices : List Bool
    pub known : Known settled layout cost choices
    pub deep : length choices ≡ length r
    pub good : AtMost cost (rank choices) c (rank r)

  -- an open layout that stands no later than the choices r at the cost c in the order of cost and bound, then of depth
  pub record OnTheWay (s : S) (c : ℕ) (r : List Bool) : Type 0 where
    pub at : S
    pub cost : ℕ
    pub choices : List Bool
    pub known : Known false at cost choices
    pub cheap : cost + low at ≤ c + low s
    pub depth : length choices ≤ length r
    pub same : length choices ≡ length r → Dominates step low at s × AtMost cost (rank choices) c (rank r)

  pub record IsExpanded : Type 0 where
    pub start : Knows false root 0 [] ⊎ Knows true root 0 []
    pub next : (s t : S) (c k : ℕ) (r : List Bool) (b : Bool) → Known true s c r → length r < n → step s b t k →
        Knows false t (c + k) (b ∷ r) ⊎ Knows true t (c + k) (b ∷ r)

  on_the_way : (s : S) (c : ℕ) (r : List Bool) → Knows false s c r → OnTheWay s c r
  on_the_way s c r h = record { at = h.layout; cost = h.cost; choices = h.choices; known = h.known; cheap = omega (arith, h.good.cost, h.over.goes []); depth = omega (arith, h.deep); same = λ _. (h.over, h.good) }

  either : (s : S) (c : ℕ) (r : List Bool) → Knows false s c r ⊎ Knows true s c r → Knows true s c r ⊎ OnTheWay s c r
  either s c r h = elim h [ inl f ↦ inr (on_the_way s c r f) | inr t ↦ inl t ]

  better : (t s : S) (settled : Bool) (c d : ℕ) (q r : List Bool) (b : Bool) (k l : ℕ) → length q ≡ length r → AtMost c (rank q) d (rank r) → l ≤ k → Dominates step low t s → Knows settled t (c + l) (b ∷ q) → Knows settled s (d + k) (b ∷ r)
  better t s settled c d q r b k l deep good cheap over h = record {
    layout = h.layout;
    over = dominates_over step low h.layout t s h.over over;
    cost = h.cost;
    choices = h.choices;
    known = h.known;
    deep = omega (arith, h.deep, deep);
    good = AtMost-trans h.cost (rank h.choices) (c + l) (rank (b ∷ q)) (d + k) (rank (b ∷ r)) h.good (AtMost-step c (rank q) d (rank r) k l (bit b) good cheap);
  }

  later : (s t : S) (c d : ℕ) (r : List Bool) (b : Bool) → c + low s ≤ d + low t → OnTheWay s c r → OnTheWay t d (b ∷ r)
  later s t c d r b le h = record {
    at = h.at;
    cost = h.cost;
    choices = h.choices;
    known = h.known;
    cheap = omega (arith, le, h.cheap);
    depth = omega (arith, h.depth);
    same = λ e. absurd (omega (arith, h.depth, e));
  }

  pub covered : IsFunctional step → IsBound step low root n → IsExpanded → (s : S) (c : ℕ) (r : List Bool) → length r ≤ n → Reached step root r s c → Knows true s c r ⊎ OnTheWay s c r
  covered functional bound e s c [] le h =
      subst (λ (x : S). Knows true x c [] ⊎ OnTheWay x c []) (sym h.0)
      (subst (λ (d : ℕ). Knows true root d [] ⊎ OnTheWay root d []) (sym h.1) (either root 0 [] e.start))
  covered functional bound e s c (b ∷ r) le h =
      let here : length r ≤ n = omega arith in
      let less : length r < n = omega arith in
      let grows : h.1 + low h.0 ≤ c + low s = omega (arith, h.5, bound.falls r h.0 s h.1 h.2 b h.3 h.4) in
      let P : ℕ → Type 0 = λ d. Knows true s d (b ∷ r) ⊎ OnTheWay s d (b ∷ r) in
      elim (covered functional bound e h.0 h.1 r here h.3) [
        | inl k ↦
            let o : StepsOver step low k.layout b s h.2 = steps_over step low functional k.layout h.0 s b h.2 k.over h.4 in
            subst P (sym h.5) (elim (e.next k.layout o.other k.cost o.cost k.choices b k.known (omega (arith, k.deep, less)) o.go) [
              | inl f ↦ inr (on_the_way s (h.1 + h.2) (b ∷ r) (better o.other s false k.cost h.1 k.choices r b h.2 o.cost k.deep k.good o.cheap o.over f))
              | inr t ↦ inl (better o.other s true k.cost h.1 k.choices r b h.2 o.cost k.deep k.good o.cheap o.over t)
            ])
        | inr w ↦ inr (later h.0 s h.1 c r b grows w)
      ]
