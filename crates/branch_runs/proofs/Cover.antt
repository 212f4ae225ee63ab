-- Each item outside the groups of `#if 0` is in some view.
use Rattle.std.proofs.Common.{◌≡◌, ℕ, ◌+◌, ◌-◌, ◌<◌, ◌≤◌, ◌⊎◌, inl, inr, true, false, List, [], ◌∷◌, ◌++◌, refl, arith}
use Rattle.branch_runs.specs.Tree.{Group, Branches, nothing, text, conditional, none, branch}
use Rattle.branch_runs.specs.Runs.{need, needs, has_live, texts, texts_in}

-- one of these texts has the item
abbrev pub AnyHas : List (ℕ × ℕ) → ℕ → Type 0
AnyHas [] i = ⊥
AnyHas (stretch ∷ stretches) i = ((stretch.0 ≤ i) × (i < stretch.1)) ⊎ AnyHas stretches i

-- the group has the item in a text outside the groups of `#if 0`
abbrev mutual
  pub Holds : Group → ℕ → Type 0
  Holds nothing i = ⊥
  Holds (text first end group) i = ((first ≤ i) × (i < end)) ⊎ Holds group i
  Holds (conditional branches group) i = HoldsIn branches i ⊎ Holds group i

  pub HoldsIn : Branches → ℕ → Type 0
  HoldsIn none i = ⊥
  HoldsIn (branch true group branches) i = Holds group i ⊎ HoldsIn branches i
  HoldsIn (branch false group branches) i = HoldsIn branches i

pub AnyHas-left : (xs ys : List (ℕ × ℕ)) (i : ℕ) → AnyHas xs i → AnyHas (xs ++ ys) i
AnyHas-left [] ys i h = absurd h
AnyHas-left (x ∷ xs) ys i (inl h) = inl h
AnyHas-left (x ∷ xs) ys i (inr h) = inr (AnyHas-left xs ys i h)

pub AnyHas-right : (xs ys : List (ℕ × ℕ)) (i : ℕ) → AnyHas ys i → AnyHas (xs ++ ys) i
AnyHas-right [] ys i h = h
AnyHas-right (x ∷ xs) ys i h = inr (AnyHas-right xs ys i h)

pub need_some : (g : Group) → 1 ≤ need g
need_some nothing = omega arith
need_some (text f e g) = need_some g
need_some (conditional bs g) = let h : 1 ≤ need g = need_some g in omega arith

pub has_live-needs : (bs : Branches) → 0 < needs bs → has_live bs ≡ true
has_live-needs none h = absurd (omega arith)
has_live-needs (branch true g bs) h = refl
has_live-needs (branch false g bs) h = has_live-needs bs h

pub texts_in-first : (g : Group) (bs : Branches) (r : ℕ) → r < need g → texts_in (branch true g bs) r ≡ texts g r
texts_in-first g bs r h = grind arith

pub texts_in-later : (g : Group) (bs : Branches) (r : ℕ) → need g ≤ r → has_live bs ≡ true → texts_in (branch true g bs) r ≡ texts_in bs (r - need g)
texts_in-later g bs r h live = grind arith

abbrev pub Seen : Group → ℕ → Type 0
Seen g i = (r : ℕ) × (r < need g) × AnyHas (texts g r) i

abbrev pub SeenIn : Branches → ℕ → Type 0
SeenIn bs i = (r : ℕ) × (r < needs bs) × AnyHas (texts_in bs r) i

mutual
  pub cover : (g : Group) (i : ℕ) → Holds g i → Seen g i
  cover nothing i h = absurd h
  cover (text f e g) i (inl h) = (0, need_some g, inl h)
  cover (text f e g) i (inr h) = let s = cover g i h in (s.0, s.1, inr s.2)
  cover (conditional bs g) i (inl h) = let s = cover_in bs i h in (s.0, omega (arith, s.1), AnyHas-left (texts_in bs s.0) (texts g s.0) i s.2)
  cover (conditional bs g) i (inr h) = let s = cover g i h in (s.0, omega (arith, s.1), AnyHas-right (texts_in bs s.0) (texts g s.0) i s.2)

  pub cover_in : (bs : Branches) (i : ℕ) → HoldsIn bs i → SeenIn bs i
  cover_in none i h = absurd h
  cover_in (branch true g bs) i (inl h) = let s = cover g i h in (s.0, omega (arith, s.1), rw (texts_in-first g bs s.0 s.1) s.2)
  cover_in (branch true g bs) i (inr h) =
      let s = cover_in bs i h in
      let live : has_live bs ≡ true = has_live-needs bs (omega (arith, s.1)) in
      let back : need g + s.0 - need g ≡ s.0 = omega arith in
      (need g + s.0, omega (arith, s.1), rw (texts_in-later g bs (need g + s.0) (omega arith) live, back) s.2)
  cover_in (branch false g bs) i h = cover_in bs i h
