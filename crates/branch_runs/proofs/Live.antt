-- What is read from the sections has each item of a text outside the groups of `#if 0`, and no more than the texts.
use Rattle.std.proofs.Common.{◌≡◌, ℕ, ◌<◌, ◌≤◌, inl, inr, Bool, true, false, List, [], ◌∷◌, refl, sym, subst, arith}
use Rattle.std.specs.Prelude.{if◌then◌else◌}
use Rattle.std.proofs.lemmas.Bool.{false≢true}
use Rattle.branch_runs.specs.declared.mark.MarkKind.{MarkKind}
use Rattle.branch_runs.specs.declared.mark.MarkKind.TheVariants.{Text, IfZero, Opens, Branch, LastBranch, Ends, Flat}
use Rattle.branch_runs.specs.declared.mark.Mark.{Mark}
use Rattle.branch_runs.specs.declared.mark.Open.{Open}
use Rattle.branch_runs.specs.declared.mark.Open.TheVariants.{Zero, Live, Last}
use Rattle.branch_runs.specs.Tree.{Group, nothing, text, conditional, branch}
use Rattle.branch_runs.specs.Reading.{kind_in, open_after, effects_in, Around, branches_of, group_of, outside, rest_with, rest_of}
use Rattle.branch_runs.specs.Dead.{has_zero, groups_around, has_item, is_dead_in}
use Rattle.branch_runs.specs.Runs.{texts}
use Rattle.branch_runs.specs.Laws.{kind_at, IsCovered}
use Rattle.branch_runs.proofs.Cover.{Holds, HoldsIn, cover}
use Rattle.branch_runs.proofs.Items.{AnyHas-items}

-- what follows at a place has the item, outside the groups of `#if 0` that are open there
pub data Follows (i : ℕ) : List Open → Group → Around → Type 0 where
  here : {stack : List Open} {g : Group} {around : Around} → has_zero stack ≡ false → Holds g i → Follows i stack g around
  beside : {o : Open} {stack : List Open} {g : Group} {around : Around} → has_zero stack ≡ false → HoldsIn (branches_of around) i → Follows i (o ∷ stack) g around
  beyond : {o : Open} {stack : List Open} {g : Group} {around : Around} → Follows i stack (group_of around) (outside around) → Follows i (o ∷ stack) g around

more : (i : ℕ) (stack : List Open) (g h : Group) (around : Around) → (Holds g i → Holds h i) → Follows i stack g around → Follows i stack h around
more i stack g h around f (here off x) = here off (f x)
more i (o ∷ stack) g h around f (beside off x) = beside off x
more i (o ∷ stack) g h around f (beyond x) = beyond x

opens : (i : ℕ) (stack : List Open) (g : Group) (around : Around) → Follows i (Live ∷ stack) g around
    → Follows i stack (conditional (branch true g (branches_of around)) (group_of around)) (outside around)
opens i stack g around (here off x) = here off (inl (inl x))
opens i stack g around (beside off x) = here off (inl (inr x))
opens i stack g around (beyond x) = more i stack (group_of around) (conditional (branch true g (branches_of around)) (group_of around)) (outside around) inr x

if_zero : (i : ℕ) (stack : List Open) (g : Group) (around : Around) → Follows i (Zero ∷ stack) g around
    → Follows i stack (conditional (branch false g (branches_of around)) (group_of around)) (outside around)
if_zero i stack g around (here off x) = absurd (false≢true (sym off))
if_zero i stack g around (beside off x) = here off (inl x)
if_zero i stack g around (beyond x) = more i stack (group_of around) (conditional (branch false g (branches_of around)) (group_of around)) (outside around) inr x

branches : (i : ℕ) (o : Open) (stack : List Open) (g : Group) (around : Around) → Follows i (Live ∷ stack) g around
    → Follows i (o ∷ stack) nothing ((branch true g (branches_of around), group_of around) ∷ outside around)
branches i o stack g around (here off x) = beside off (inl x)
branches i o stack g around (beside off x) = beside off (inr x)
branches i o stack g around (beyond x) = beyond x

last : (i : ℕ) (o : Open) (stack : List Open) (g : Group) (around : Around) → Follows i (Last ∷ stack) g around
    → Follows i (o ∷ stack) nothing ((branch true g (branches_of around), group_of around) ∷ outside around)
last i o stack g around (here off x) = beside off (inl x)
last i o stack g around (beside off x) = beside off (inr x)
last i o stack g around (beyond x) = beyond x

-- a section keeps what follows after it
abbrev Keeps : ℕ → MarkKind → List Open → ℕ → ℕ → Group → Around → Type 0
Keeps i kind stack f e g around =
    Follows i (open_after kind stack) g around → Follows i stack (rest_with kind f e g around).0 (rest_with kind f e g around).1

keeps : (i : ℕ) (kind : MarkKind) (stack : List Open) (f e : ℕ) (g : Group) (around : Around) → Keeps i (kind_in kind stack) stack f e g around
keeps i Text stack f e g around x = more i stack g (text f e g) around inr x
keeps i Flat stack f e g around x = x
keeps i IfZero stack f e g around x = if_zero i stack g around x
keeps i Opens stack f e g around x = opens i stack g around x
keeps i Branch [] f e g around x = x
keeps i Branch (Last ∷ stack) f e g around x = x
keeps i Branch (Live ∷ stack) f e g around x = branches i Live stack g around x
keeps i Branch (Zero ∷ stack) f e g around x = branches i Zero stack g around x
keeps i LastBranch [] f e g around x = x
keeps i LastBranch (Last ∷ stack) f e g around x = x
keeps i LastBranch (Live ∷ stack) f e g around x = last i Live stack g around x
keeps i LastBranch (Zero ∷ stack) f e g around x = last i Zero stack g around x
keeps i Ends [] f e g around x = x
keeps i Ends (o ∷ stack) f e g around x = beyond x

has_item-bounds : (m : Mark) (i : ℕ) → has_item m i ≡ true → (m.first ≤ i) × (i < m.end)
has_item-bounds m i h = grind arith

no-text : Flat ≡ Text → ⊥
no-text e = cc

text-here : (k : MarkKind) (stack : List Open) (f e : ℕ) (g : Group) (around : Around) (i : ℕ) → Text ≡ k → (f ≤ i) × (i < e)
    → has_zero (groups_around (kind_in k stack) stack) ≡ false
    → Follows i stack (rest_with (kind_in k stack) f e g around).0 (rest_with (kind_in k stack) f e g around).1
text-here k stack f e g around i is within =
    let P : MarkKind → Type 0 = λ q. has_zero (groups_around (kind_in q stack) stack) ≡ false → Follows i stack (rest_with (kind_in q stack) f e g around).0 (rest_with (kind_in q stack) f e g around).1 in
    let text : P Text = λ off. here off (inl within) in
    subst P is text

abbrev Reaches : List Mark → List Open → ℕ → Type 0
Reaches marks stack i = kind_at marks i ≡ Text → is_dead_in stack (effects_in stack marks) i ≡ false
    → Follows i stack (rest_of (effects_in stack marks)).0 (rest_of (effects_in stack marks)).1

step : (m : Mark) (marks : List Mark) (stack : List Open) (i : ℕ) (b : Bool) → has_item m i ≡ b
    → Reaches marks (open_after (kind_in m.kind stack) stack) i → Reaches (m ∷ marks) stack i
step m marks stack i true e more is live =
    let is_text : m.kind ≡ Text = subst (λ c. (if c then m.kind else kind_at marks i) ≡ Text) e is in
    let dead : Bool = is_dead_in (open_after (kind_in m.kind stack) stack) (effects_in (open_after (kind_in m.kind stack) stack) marks) i in
    let off : has_zero (groups_around (kind_in m.kind stack) stack) ≡ false =
    subst (λ c. (if c then has_zero (groups_around (kind_in m.kind stack) stack) else dead) ≡ false) e live in
    let rest = rest_of (effects_in (open_after (kind_in m.kind stack) stack) marks) in
    text-here m.kind stack m.first m.end rest.0 rest.1 i (sym is_text) (has_item-bounds m i e) off
step m marks stack i false e more is live =
    let is_text : kind_at marks i ≡ Text = subst (λ c. (if c then m.kind else kind_at marks i) ≡ Text) e is in
    let dead : Bool = is_dead_in (open_after (kind_in m.kind stack) stack) (effects_in (open_after (kind_in m.kind stack) stack) marks) i in
    let off : dead ≡ false = subst (λ c. (if c then has_zero (groups_around (kind_in m.kind stack) stack) else dead) ≡ false) e live in
    let rest = rest_of (effects_in (open_after (kind_in m.kind stack) stack) marks) in
    keeps i m.kind stack m.first m.end rest.0 rest.1 (more is_text off)

pub follows : (marks : List Mark) (stack : List Open) (i : ℕ) → Reaches marks stack i
follows [] stack i is live = absurd (no-text is)
follows (m ∷ marks) stack i is live =
    step m marks stack i (has_item m i) refl (follows marks (open_after (kind_in m.kind stack) stack) i) is live

no-follow : (i : ℕ) (g : Group) (around : Around) → Follows i [] g around → Holds g i
no-follow i g around (here off x) = x

pub is_covered : (marks : List Mark) → IsCovered marks
is_covered marks i is live =
    let rest = rest_of (effects_in [] marks) in
    let s = cover rest.0 i (no-follow i rest.0 rest.1 (follows marks [] i is live)) in
    (s.0, s.1, AnyHas-items (texts rest.0 s.0) i s.2)
