-- What the settled vertices count: at most the cells of all counted layouts, and at least those of the vertices on one path.
use Rattle.std.proofs.Common.{◌≡◌, ◌≢◌, ℕ, ◌+◌, ◌≤◌, Bool, true, false, Option, Some, None, List, [], ◌∷◌, refl, arith, ap, sym, ◌∙◌, suc, zero, slice_get, sum_by, Contains}
use Rattle.std.proofs.Math.ListN.{set}
use Rattle.std.proofs.lemmas.List.Sums.{sum_by-cons}
use Rattle.std.proofs.lemmas.Option.{slice_get-get_or}
use Rattle.line_state.specs.Cells.{IsTotal, IsWithinCells}
use Rattle.line_state.proofs.Table.{Vertex, HasParent, HaveParents}

-- what a vertex counts
abbrev pub weight_by : Bool → ℕ → ℕ
weight_by true k = k
weight_by false k = 0

abbrev pub weight : {S : Type 0} → (S → ℕ) → Vertex S → ℕ
weight f vertex = weight_by vertex.settled (f vertex.state)

abbrev pub cut : {S : Type 0} → List S → ℕ → List S
cut [] i = []
cut (x ∷ xs) zero = xs
cut (x ∷ xs) (suc i) = x ∷ cut xs i

sum-cut : {S : Type 0} (f : S → ℕ) (xs : List S) (i : ℕ) (s : S) → slice_get xs i ≡ Some s → sum_by f xs ≡ f s + sum_by f (cut xs i)
sum-cut f [] i s h = absurd (none-some h)
  where
    none-some : {A : Type 0} {x : A} → None ≡ Some x → ⊥
    none-some e = cc
sum-cut f (x ∷ xs) zero s h = let e : x ≡ s = cc in omega (arith, sum_by-cons f x xs, ap f e)
sum-cut f (x ∷ xs) (suc i) s h = omega (arith, sum_by-cons f x xs, sum_by-cons f x (cut xs i), sum-cut f xs i s h)

get-cut : {S : Type 0} (xs : List S) (i j : ℕ) (s y : S) → slice_get xs i ≡ Some s → slice_get xs j ≡ Some y → (s ≡ y → ⊥) → (k : ℕ) × (slice_get (cut xs i) k ≡ Some y)
get-cut [] i j s y h l ne = absurd (none-some h)
  where
    none-some : {A : Type 0} {x : A} → None ≡ Some x → ⊥
    none-some e = cc
get-cut (x ∷ xs) zero zero s y h l ne = absurd (ne (cc))
get-cut (x ∷ xs) zero (suc j) s y h l ne = (j, l)
get-cut (x ∷ xs) (suc i) zero s y h l ne = (zero, l)
get-cut (x ∷ xs) (suc i) (suc j) s y h l ne = let r = get-cut xs i j s y h l ne in (suc r.0, r.1)

-- the layout is in the list
abbrev pub Among : {S : Type 0} → List S → S → Type 0
Among xs s = (i : ℕ) × (slice_get xs i ≡ Some s)

pub Among-Contains : {S : Type 0} (xs : List S) (s : S) → Contains xs s → Among xs s
Among-Contains xs s h = (h.0, slice_get-get_or xs h.0 s h.1 ∙ ap (λ x. Some x) h.2)

-- what settled vertices of different layouts count is at most the sum over any list that has these layouts
pub weigh : {S : Type 0} (f : S → ℕ) (vertices : List (Vertex S)) (xs : List S) →
    ((u w : ℕ) (a b : Vertex S) → slice_get vertices u ≡ Some a → slice_get vertices w ≡ Some b → a.state ≡ b.state → u ≡ w) →
    ((u : ℕ) (x : Vertex S) → slice_get vertices u ≡ Some x → x.settled ≡ true → Among xs x.state) → sum_by (weight f) vertices ≤ sum_by f xs
weigh f [] xs apart all = omega arith
weigh {S} f (vertex ∷ vertices) xs apart all = by_flag (λ ys a. weigh f vertices ys apart' a) vertex.settled refl
  where
    apart' : (u w : ℕ) (a b : Vertex S) → slice_get vertices u ≡ Some a → slice_get vertices w ≡ Some b → a.state ≡ b.state → u ≡ w
    apart' u w a b at bt same = omega (arith, apart (suc u) (suc w) a b at bt same)

    by_flag : ((ys : List S) → ((u : ℕ) (x : Vertex S) → slice_get vertices u ≡ Some x → x.settled ≡ true → Among ys x.state) → sum_by (weight f) vertices ≤ sum_by f ys) → (flag : Bool) → vertex.settled ≡ flag → sum_by (weight f) (vertex ∷ vertices) ≤ sum_by f xs
    by_flag go false e =
        let rest = go xs (λ u x. all (suc u) x) in
        let w : weight f vertex ≡ 0 = ap (λ (b : Bool). weight_by b (f vertex.state)) e in
        omega (arith, sum_by-cons (weight f) vertex vertices, rest, w)
    by_flag go true e =
        let here : Among xs vertex.state = all 0 vertex refl e in
        let rest = go (cut xs here.0) (λ u x at flag.
        let there : Among xs x.state = all (suc u) x at flag in
        get-cut xs here.0 there.0 vertex.state x.state here.1 there.1 (λ same. absurd (suc-zero u (apart (suc u) 0 x vertex at refl (sym same))))) in
        let w : weight f vertex ≡ f vertex.state = ap (λ (b : Bool). weight_by b (f vertex.state)) e in
        omega (arith, sum_by-cons (weight f) vertex vertices, rest, w, sum-cut f xs here.0 vertex.state here.1)
      where
        suc-zero : (u : ℕ) → suc u ≡ 0 → ⊥
        suc-zero u e = omega arith

-- the layouts on the way to a vertex, the last one first
abbrev pub trail_by : {S : Type 0} → (ℕ → List S) → Option (Vertex S) → List S
trail_by f None = []
trail_by f (Some vertex) = vertex.state ∷ f vertex.parent

abbrev pub trail : {S : Type 0} → List (Vertex S) → ℕ → ℕ → List S
trail vertices zero v = trail_by (λ u. []) (slice_get vertices v)
trail vertices (suc d) v = trail_by (trail vertices d) (slice_get vertices v)

abbrev unsettled : {S : Type 0} → Vertex S → Vertex S
unsettled vertex = record { state = vertex.state; cost = vertex.cost; depth = vertex.depth; parent = vertex.parent; brk = vertex.brk; settled = false }

sum-unsettled : {S : Type 0} (f : S → ℕ) (vertices : List (Vertex S)) (v : ℕ) (vertex : Vertex S) → slice_get vertices v ≡ Some vertex → vertex.settled ≡ true →
    sum_by (weight f) vertices ≡ f vertex.state + sum_by (weight f) (set vertices v (unsettled vertex))
sum-unsettled f [] v vertex h e = absurd (none-some h)
  where
    none-some : {A : Type 0} {x : A} → None ≡ Some x → ⊥
    none-some e = cc
sum-unsettled f (x ∷ vertices) zero vertex h e =
    let same : x ≡ vertex = cc in
    let flag : x.settled ≡ true = ap (λ y. y.settled) same ∙ e in
    let w : weight f x ≡ f x.state = ap (λ (b : Bool). weight_by b (f x.state)) flag in
    let states : f x.state ≡ f vertex.state = ap (λ y. f y.state) same in
    omega (arith, sum_by-cons (weight f) x vertices, sum_by-cons (weight f) (unsettled vertex) vertices, w, states)
sum-unsettled f (x ∷ vertices) (suc v) vertex h e = omega (arith, sum_by-cons (weight f) x vertices, sum_by-cons (weight f) x (set vertices v (unsettled vertex)), sum-unsettled f vertices v vertex h e)

get-set : {S : Type 0} (vertices : List S) (v u : ℕ) (y x : S) → u ≢ v → slice_get vertices u ≡ Some x → slice_get (set vertices v y) u ≡ Some x
get-set [] v u y x ne h = h
get-set (z ∷ vertices) zero zero y x ne h = absurd (ne refl)
get-set (z ∷ vertices) zero (suc u) y x ne h = h
get-set (z ∷ vertices) (suc v) zero y x ne h = h
get-set (z ∷ vertices) (suc v) (suc u) y x ne h = get-set vertices v u y x (λ e. ne (omega arith)) h

-- the vertices up to a depth are settled in another table too
abbrev SettledTo : {S : Type 0} → List (Vertex S) → List (Vertex S) → ℕ → Type 0
SettledTo {S} vertices others d = (u : ℕ) (x : Vertex S) → slice_get vertices u ≡ Some x → x.settled ≡ true → x.depth ≤ d → slice_get others u ≡ Some x

trail_in : {S : Type 0} (f : S → ℕ) (vertices others : List (Vertex S)) (d v : ℕ) (vertex : Vertex S) → HaveParents vertices → SettledTo vertices others d → slice_get vertices v ≡ Some vertex → vertex.settled ≡ true → vertex.depth ≡ d →
    sum_by f (trail vertices d v) ≤ sum_by (weight f) others
trail_in {S} f vertices others zero v vertex up has at flag deep =
    let there : slice_get others v ≡ Some vertex = has v vertex at flag (omega arith) in
    let e : trail vertices zero v ≡ vertex.state ∷ [] = ap (λ (o : Option (Vertex S)). trail_by (λ u. []) o) at in
    omega (arith, ap (sum_by f) e, sum_by-cons f vertex.state [], sum-unsettled f others v vertex there flag)
trail_in {S} f vertices others (suc d) v vertex up has at flag deep =
    let there : slice_get others v ≡ Some vertex = has v vertex at flag (omega arith) in
    let h : HasParent vertices vertex = up v vertex at (omega arith) in
    let e : trail vertices (suc d) v ≡ vertex.state ∷ trail vertices d vertex.parent = ap (λ (o : Option (Vertex S)). trail_by (trail vertices d) o) at in
    let fewer : SettledTo vertices (set others v (unsettled vertex)) d = λ u x ax fx dx.
    let ne : u ≢ v = λ same. deeper u x ax dx same in get-set others v u (unsettled vertex) x ne (has u x ax fx (omega (arith, dx))) in
    let rest = trail_in f vertices (set others v (unsettled vertex)) d vertex.parent h.up up fewer h.at h.settled (omega (arith, h.depth)) in
    omega (arith, ap (sum_by f) e, sum_by-cons f vertex.state (trail vertices d vertex.parent), sum-unsettled f others v vertex there flag, rest)
  where
    deeper : (u : ℕ) (x : Vertex S) → slice_get vertices u ≡ Some x → x.depth ≤ d → u ≡ v → ⊥
    deeper u x ax dx same =
        let e : Some x ≡ Some vertex = sym ax ∙ ap (λ (y : ℕ). slice_get vertices y) same ∙ at in
        let eq : x ≡ vertex = cc in
        omega (arith, ap (λ (y : Vertex S). y.depth) eq)

-- the layouts on the way to a settled vertex are counted
pub trail_weight : {S : Type 0} (f : S → ℕ) (vertices : List (Vertex S)) (v : ℕ) (vertex : Vertex S) → HaveParents vertices → slice_get vertices v ≡ Some vertex → vertex.settled ≡ true →
    sum_by f (trail vertices vertex.depth v) ≤ sum_by (weight f) vertices
trail_weight f vertices v vertex up at flag = trail_in f vertices vertices vertex.depth v vertex up (λ u x ax fx dx. ax) at flag refl

-- what isn't above the sum over any list that has every counted layout isn't above the line's cells
pub within_total : {S : Type 0} (step : S → Bool → S → ℕ → Type 0) (root : S) (n : ℕ) (cells : S → ℕ) (told total : ℕ) → IsWithinCells step root n cells told → IsTotal step root n cells total → told ≤ total
within_total step root n cells told total within t = omega (arith, within t.layouts t.all, t.sums)
