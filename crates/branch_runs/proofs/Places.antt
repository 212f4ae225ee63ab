-- Items by their places in a cut.
use Rattle.std.proofs.Common.{◌≡◌, ◌∙◌, ℕ, zero, suc, ◌-◌, ◌<◌, ◌≤◌, ◌⊎◌, inl, inr, Bool, true, false, List, [], ◌∷◌, ◌++◌, get_or, replicate, refl, sym, ap, subst, arith}
use Rattle.std.specs.Prelude.{if◌then◌else◌}
use Rattle.branch_runs.specs.declared.mark.MarkKind.{MarkKind}
use Rattle.branch_runs.specs.declared.mark.MarkKind.TheVariants.{Text, Flat}
use Rattle.branch_runs.specs.declared.mark.Mark.{Mark}
use Rattle.branch_runs.specs.declared.mark.Open.{Open}
use Rattle.branch_runs.specs.Reading.{open_after}
use Rattle.branch_runs.specs.Dead.{has_item, has_zero, groups_around, is_dead_in}
use Rattle.branch_runs.specs.Flags.{flags_in}
use Rattle.branch_runs.specs.Laws.{kind_at, NoneBetween, NeverParted}
use Rattle.branch_runs.specs.Cut.{IsCutFrom, BeginsNoText}
use Rattle.branch_runs.proofs.Together.{AreTogether, keeps_together}

pub has_item-true : (m : Mark) (i : ℕ) → m.first ≤ i → i < m.end → has_item m i ≡ true
has_item-true m i a b = grind arith

has_item-below : (m : Mark) (i : ℕ) → i < m.first → has_item m i ≡ false
has_item-below m i a = grind arith

pub has_item-above : (m : Mark) (i : ℕ) → m.end ≤ i → has_item m i ≡ false
has_item-above m i a = grind arith

text-then : Flat ≡ Text → ⊥
text-then e = cc

-- what comes before the sections is in none
none_below : (marks : List Mark) (at i j : ℕ) → IsCutFrom at marks → i < at → j < at → AreTogether marks i j
none_below [] at i j cut a b = tt
none_below (m ∷ marks) at i j cut a b = (
  (λ e. has_item-below m i (omega (arith, cut.0)) ∙ sym (has_item-below m j (omega (arith, cut.0)))),
  none_below marks m.end i j cut.3 (omega (arith, cut.0, cut.1)) (omega (arith, cut.0, cut.1)),
)

pub kind-here : (m : Mark) (marks : List Mark) (i : ℕ) (k : MarkKind) → has_item m i ≡ true → kind_at (m ∷ marks) i ≡ k → m.kind ≡ k
kind-here m marks i k h e = subst (λ b. (if b then m.kind else kind_at marks i) ≡ k) h e

pub kind-there : (m : Mark) (marks : List Mark) (i : ℕ) (k : MarkKind) → has_item m i ≡ false → kind_at (m ∷ marks) i ≡ k → kind_at marks i ≡ k
kind-there m marks i k h e = subst (λ b. (if b then m.kind else kind_at marks i) ≡ k) h e

-- the section after a text begins no later than an item past it, and is a directive
parts_them : (marks : List Mark) (at i j : ℕ) → IsCutFrom at marks → BeginsNoText marks → i < at → at ≤ j → kind_at marks j ≡ Text → NoneBetween marks i j → ⊥
parts_them [] at i j cut begins a b is between = text-then is
parts_them (m ∷ marks) at i j cut begins a b is between =
    let below : j < m.first = between.0 begins (omega (arith, cut.0)) in
    omega (arith, cut.0)

abbrev Joined : List Mark → ℕ → ℕ → Type 0
Joined marks i j = kind_at marks i ≡ Text → kind_at marks j ≡ Text → NoneBetween marks i j → AreTogether marks i j

in_first : (m : Mark) (marks : List Mark) (at i j : ℕ) → IsCutFrom at (m ∷ marks) → at ≤ i → i ≤ j → i < m.end → (j < m.end) ⊎ (m.end ≤ j) → Joined (m ∷ marks) i j
in_first m marks at i j cut low order a (inl b) is also between = (
  (λ e. has_item-true m i (omega (arith, cut.0)) a ∙ sym (has_item-true m j (omega (arith, cut.0)) b)),
  none_below marks m.end i j cut.3 a b,
)
in_first m marks at i j cut low order a (inr b) is also between =
    let is_text : m.kind ≡ Text = kind-here m marks i Text (has_item-true m i (omega (arith, cut.0)) a) is in
    absurd (parts_them marks m.end i j cut.3 (cut.2 is_text) a b (kind-there m marks j Text (has_item-above m j b) also) between.1)

cases_lt : (i n : ℕ) → (i < n) ⊎ (n ≤ i)
cases_lt i n = grind arith

joined_step : (m : Mark) (marks : List Mark) (at i j : ℕ) → IsCutFrom at (m ∷ marks) → at ≤ i → i ≤ j → (i < m.end) ⊎ (m.end ≤ i)
    → (m.end ≤ i → Joined marks i j) → Joined (m ∷ marks) i j
joined_step m marks at i j cut low order (inl a) more is also between = in_first m marks at i j cut low order a (cases_lt j m.end) is also between
joined_step m marks at i j cut low order (inr a) more is also between =
    let b : m.end ≤ j = omega (arith, a, order) in (
      (λ e. has_item-above m i a ∙ sym (has_item-above m j b)),
      more a (kind-there m marks i Text (has_item-above m i a) is) (kind-there m marks j Text (has_item-above m j b) also) between.1,
    )

joined : (marks : List Mark) (at i j : ℕ) → IsCutFrom at marks → at ≤ i → i ≤ j → Joined marks i j
joined [] at i j cut low order = λ is also between. tt
joined (m ∷ marks) at i j cut low order =
    joined_step m marks at i j cut low order (cases_lt i m.end) (λ above. joined marks m.end i j cut.3 above order)

pub never_parted : (marks : List Mark) → IsCutFrom 0 marks → NeverParted marks
never_parted marks cut r i j order is also between = keeps_together marks r i j (joined marks 0 i j cut (omega arith) order is also between)

-- the flags of the items
flag-here : (b : Bool) (n i : ℕ) (xs : List Bool) → i < n → get_or (replicate n b ++ xs) i false ≡ b
flag-here b zero i xs h = absurd (omega arith)
flag-here b (suc n) zero xs h = refl
flag-here b (suc n) (suc i) xs h = flag-here b n i xs (omega arith)

flag-there : (b : Bool) (n i : ℕ) (xs : List Bool) → n ≤ i → get_or (replicate n b ++ xs) i false ≡ get_or xs (i - n) false
flag-there b zero i xs h = let e : i - 0 ≡ i = omega arith in rw e refl
flag-there b (suc n) zero xs h = absurd (omega arith)
flag-there b (suc n) (suc i) xs h = let e : suc i - suc n ≡ i - n = omega arith in rw e (flag-there b n i xs (omega arith))

flag-step : (m : Mark) (stack : List Open) (marks : List Mark) (at i : ℕ) → IsCutFrom at (m ∷ marks) → at ≤ i → (i < m.end) ⊎ (m.end ≤ i)
    → (m.end ≤ i → get_or (flags_in (open_after m.kind stack) marks) (i - m.end) false ≡ is_dead_in (open_after m.kind stack) marks i)
    → get_or (flags_in stack (m ∷ marks)) (i - at) false ≡ is_dead_in stack (m ∷ marks) i
flag-step m stack marks at i cut low (inl a) more =
    let dead = has_zero (groups_around m.kind stack) in
    let there = is_dead_in (open_after m.kind stack) marks i in
    flag-here dead (m.end - m.first) (i - at) (flags_in (open_after m.kind stack) marks) (omega (arith, cut.0))
    ∙ sym (ap (λ b. if b then dead else there) (has_item-true m i (omega (arith, cut.0)) a))
flag-step m stack marks at i cut low (inr a) more =
    let dead = has_zero (groups_around m.kind stack) in
    let there = is_dead_in (open_after m.kind stack) marks i in
    let e : i - at - (m.end - m.first) ≡ i - m.end = omega (arith, cut.0, cut.1) in
    flag-there dead (m.end - m.first) (i - at) (flags_in (open_after m.kind stack) marks) (omega (arith, cut.0, cut.1))
    ∙ (ap (λ k. get_or (flags_in (open_after m.kind stack) marks) k false) e ∙ (more a ∙ sym (ap (λ b. if b then dead else there) (has_item-above m i a))))

pub flags_dead : (marks : List Mark) (stack : List Open) (at i : ℕ) → IsCutFrom at marks → at ≤ i
    → get_or (flags_in stack marks) (i - at) false ≡ is_dead_in stack marks i
flags_dead [] stack at i cut low = refl
flags_dead (m ∷ marks) stack at i cut low =
    flag-step m stack marks at i cut low (cases_lt i m.end) (λ above. flags_dead marks (open_after m.kind stack) m.end i cut.3 above)
