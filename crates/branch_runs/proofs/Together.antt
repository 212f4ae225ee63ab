-- Two items that no directive stretches are in a view together or not at all.
use Rattle.std.proofs.Common.{◌≡◌, ◌∙◌, ℕ, ◌-◌, ◌<◌, ◌≤◌, ◌⊎◌, inl, inr, Bool, true, false, not, ◌||◌, List, [], ◌∷◌, ◌++◌, refl, sym, arith}
use Rattle.std.specs.Prelude.{⊤, nat_lt, if◌then◌else◌, ◌↔◌}
use Rattle.std.specs.List.{Contains}
use Rattle.branch_runs.specs.declared.mark.MarkKind.{MarkKind}
use Rattle.branch_runs.specs.declared.mark.MarkKind.TheVariants.{Text, IfZero, Opens, Branch, LastBranch, Ends, Flat}
use Rattle.branch_runs.specs.declared.mark.Mark.{Mark}
use Rattle.branch_runs.specs.declared.mark.Open.{Open}
use Rattle.branch_runs.specs.declared.mark.Open.TheVariants.{Zero, Live, Last}
use Rattle.branch_runs.specs.Tree.{Group, Branches, nothing, text, conditional, none, branch}
use Rattle.branch_runs.specs.Reading.{kind_in, open_after, effects_in, Around, branches_of, group_of, outside, rest_with, rest_of, tree_of}
use Rattle.branch_runs.specs.Runs.{need, has_live, texts, texts_in, view_of}
use Rattle.branch_runs.specs.Dead.{has_item}
use Rattle.branch_runs.proofs.Cover.{AnyHas, AnyHas-left, AnyHas-right}
use Rattle.branch_runs.proofs.Items.{AnyHas-items, items-AnyHas}

-- each text has both items or neither
abbrev pub AreTogether : List Mark → ℕ → ℕ → Type 0
AreTogether [] i j = ⊤
AreTogether (m ∷ marks) i j = (m.kind ≡ Text → has_item m i ≡ has_item m j) × AreTogether marks i j

-- such items are in a view together or not at all
abbrev pub KeepsTogether : List Mark → Type 0
KeepsTogether marks = (r i j : ℕ) → AreTogether marks i j → Contains (view_of (tree_of marks) r) i ↔ Contains (view_of (tree_of marks) r) j

-- a text that has the first item has the second
abbrev Goes : ℕ → ℕ → ℕ → ℕ → Type 0
Goes f e i j = (f ≤ i) × (i < e) → (f ≤ j) × (j < e)

-- each text that has the first item has the second
abbrev mutual
  Agree : ℕ → ℕ → Group → Type 0
  Agree i j nothing = ⊤
  Agree i j (text f e g) = Goes f e i j × Agree i j g
  Agree i j (conditional bs g) = AgreeIn i j bs × Agree i j g

  AgreeIn : ℕ → ℕ → Branches → Type 0
  AgreeIn i j none = ⊤
  AgreeIn i j (branch live g bs) = Agree i j g × AgreeIn i j bs

pub AnyHas-cases : (xs ys : List (ℕ × ℕ)) (i : ℕ) → AnyHas (xs ++ ys) i → AnyHas xs i ⊎ AnyHas ys i
AnyHas-cases [] ys i h = inr h
AnyHas-cases (x ∷ xs) ys i (inl h) = inl (inl h)
AnyHas-cases (x ∷ xs) ys i (inr h) = elim (AnyHas-cases xs ys i h) [ inl a ↦ inl (inr a) | inr a ↦ inr a ]

both : (xs ys : List (ℕ × ℕ)) (i j : ℕ) → (AnyHas xs i → AnyHas xs j) → (AnyHas ys i → AnyHas ys j) → AnyHas (xs ++ ys) i → AnyHas (xs ++ ys) j
both xs ys i j f g h = elim (AnyHas-cases xs ys i h) [ inl a ↦ AnyHas-left xs ys j (f a) | inr a ↦ AnyHas-right xs ys j (g a) ]

chosen : (c : Bool) (xs ys : List (ℕ × ℕ)) (i j : ℕ) → (AnyHas xs i → AnyHas xs j) → (AnyHas ys i → AnyHas ys j)
    → AnyHas (if c then xs else ys) i → AnyHas (if c then xs else ys) j
chosen true xs ys i j f g h = f h
chosen false xs ys i j f g h = g h

mutual
  together : (i j : ℕ) (g : Group) (r : ℕ) → Agree i j g → AnyHas (texts g r) i → AnyHas (texts g r) j
  together i j nothing r a h = absurd h
  together i j (text f e g) r a (inl h) = inl (a.0 h)
  together i j (text f e g) r a (inr h) = inr (together i j g r a.1 h)
  together i j (conditional bs g) r a h = both (texts_in bs r) (texts g r) i j (together_in i j bs r a.0) (together i j g r a.1) h

  together_in : (i j : ℕ) (bs : Branches) (r : ℕ) → AgreeIn i j bs → AnyHas (texts_in bs r) i → AnyHas (texts_in bs r) j
  together_in i j none r a h = absurd h
  together_in i j (branch true g bs) r a h =
      chosen (nat_lt r (need g) || not (has_live bs)) (texts g r) (texts_in bs (r - need g)) i j (together i j g r a.0) (together_in i j bs (r - need g) a.1) h
  together_in i j (branch false g bs) r a h = together_in i j bs r a.1 h

abbrev AgreeAround : ℕ → ℕ → Around → Type 0
AgreeAround i j [] = ⊤
AgreeAround i j (level ∷ around) = AgreeIn i j level.0 × Agree i j level.1 × AgreeAround i j around

level_of : (i j : ℕ) (around : Around) → AgreeAround i j around
    → AgreeIn i j (branches_of around) × Agree i j (group_of around) × AgreeAround i j (outside around)
level_of i j [] a = (tt, tt, tt)
level_of i j (level ∷ around) a = a

rest_agrees : (i j : ℕ) (kind : MarkKind) (f e : ℕ) (g : Group) (around : Around) → (kind ≡ Text → Goes f e i j)
    → Agree i j g → AgreeAround i j around
    → Agree i j (rest_with kind f e g around).0 × AgreeAround i j (rest_with kind f e g around).1
rest_agrees i j Text f e g around t a b = ((t refl, a), b)
rest_agrees i j Flat f e g around t a b = (a, b)
rest_agrees i j IfZero f e g around t a b = let l = level_of i j around b in (((a, l.0), l.1), l.2)
rest_agrees i j Opens f e g around t a b = let l = level_of i j around b in (((a, l.0), l.1), l.2)
rest_agrees i j Branch f e g around t a b = let l = level_of i j around b in (tt, ((a, l.0), l.1, l.2))
rest_agrees i j LastBranch f e g around t a b = let l = level_of i j around b in (tt, ((a, l.0), l.1, l.2))
rest_agrees i j Ends f e g around t a b = (tt, (tt, a, b))

-- a section that has no effect is no text
pub still_text : (kind : MarkKind) (stack : List Open) → kind_in kind stack ≡ Text → kind ≡ Text
still_text Text stack e = refl
still_text IfZero stack e = e
still_text Opens stack e = e
still_text Flat stack e = e
still_text Branch [] e = cc
still_text Branch (Last ∷ stack) e = cc
still_text Branch (Live ∷ stack) e = e
still_text Branch (Zero ∷ stack) e = e
still_text LastBranch [] e = cc
still_text LastBranch (Last ∷ stack) e = cc
still_text LastBranch (Live ∷ stack) e = e
still_text LastBranch (Zero ∷ stack) e = e
still_text Ends [] e = cc
still_text Ends (o ∷ stack) e = e

goes : (m : Mark) (i j : ℕ) → has_item m i ≡ has_item m j → Goes m.first m.end i j
goes m i j e within =
    let here : has_item m i ≡ true = grind (arith, within.0, within.1) in
    let there : has_item m j ≡ true = sym e ∙ here in
    grind arith

agrees : (marks : List Mark) (stack : List Open) (i j : ℕ) → AreTogether marks i j
    → Agree i j (rest_of (effects_in stack marks)).0 × AgreeAround i j (rest_of (effects_in stack marks)).1
agrees [] stack i j a = (tt, tt)
agrees (m ∷ marks) stack i j a =
    let after = open_after (kind_in m.kind stack) stack in
    let rest = rest_of (effects_in after marks) in
    let h = agrees marks after i j a.1 in
    rest_agrees i j (kind_in m.kind stack) m.first m.end rest.0 rest.1
    (λ e. goes m i j (a.0 (still_text m.kind stack e))) h.0 h.1

swapped : (marks : List Mark) (i j : ℕ) → AreTogether marks i j → AreTogether marks j i
swapped [] i j a = tt
swapped (m ∷ marks) i j a = ((λ e. sym (a.0 e)), swapped marks i j a.1)

one_way : (marks : List Mark) (r i j : ℕ) → AreTogether marks i j → Contains (view_of (tree_of marks) r) i → Contains (view_of (tree_of marks) r) j
one_way marks r i j a h =
    let t = texts (tree_of marks) r in
    AnyHas-items t j (together i j (tree_of marks) r (agrees marks [] i j a).0 (items-AnyHas t i h))

pub keeps_together : (marks : List Mark) → KeepsTogether marks
keeps_together marks r i j a = (one_way marks r i j a, one_way marks r j i (swapped marks i j a))
