-- Decisions for places in their order.
use Rattle.std.proofs.Common.{◌≡◌, ◌≢◌, ◌∙◌, ℕ, zero, suc, ◌+◌, ◌-◌, ◌<◌, ◌≤◌, ◌⊎◌, inl, inr, Bool, Option, Some, None, List, [], ◌++◌, refl, sym, ap, arith, append_assoc, eq-eqb}
use Rattle.std.specs.Prelude.{if◌then◌else◌}
use Rattle.std.proofs.lemmas.Bool.{ne_eqb}
use Rattle.replacements.specs.declared.slot.Slot.{Slot}
use Rattle.replacements.specs.Decisions.{decided_all, first_for}
use Rattle.line_gaps.proofs.Walked.{decided_all-append}
use Rattle.early_gaps.specs.Made.{made_at, made_from}

-- ## One place after another

-- the decisions for some places, and those for the places behind them
from_split : (f : ℕ → Option Slot) (at n m : ℕ) → made_from f at (n + m) ≡ made_from f at n ++ made_from f (at + n) m
from_split f at zero m =
    let e : at ≡ at + 0 = omega arith in
    let all : 0 + m ≡ m = omega arith in
    ap (made_from f at) all ∙ ap (λ x. made_from f x m) e
from_split f at (suc n) m =
    let e : at + 1 + n ≡ at + suc n = omega arith in
    let all : suc n + m ≡ suc (n + m) = omega arith in
    let made = made_at at (f at) in
    ap (made_from f at) all
    ∙ ap (λ l. made ++ l) (from_split f (at + 1) n m)
    ∙ (sym (append_assoc made (made_from f (at + 1) n) (made_from f (at + 1 + n) m))
    ∙ ap (λ x. (made ++ made_from f (at + 1) n) ++ made_from f x m) e)

-- the places up to an end are decided, and those behind it are left
pub from_on : (f : ℕ → Option Slot) (plan after : List (Option Slot)) (at end total : ℕ) → at ≤ end → end ≤ total → after ≡ decided_all plan (made_from f at (end - at))
    → decided_all after (made_from f end (total - end)) ≡ decided_all plan (made_from f at (total - at))
from_on f plan after at end total low high is =
    let count : total - at ≡ end - at + (total - end) = omega (arith, low, high) in
    let there : at + (end - at) ≡ end = omega (arith, low) in
    let whole : made_from f at (total - at) ≡ made_from f at (end - at) ++ made_from f end (total - end) =
    ap (made_from f at) count ∙ (from_split f at (end - at) (total - end) ∙ ap (λ x. made_from f at (end - at) ++ made_from f x (total - end)) there) in
    ap (λ p. decided_all p (made_from f end (total - end))) is
    ∙ (sym (decided_all-append plan (made_from f at (end - at)) (made_from f end (total - end))) ∙ ap (decided_all plan) (sym whole))

-- the decision for a place, and those for the others behind it
pub one_more : (f : ℕ → Option Slot) (plan after : List (Option Slot)) (place rest count : ℕ) (made : Option Slot) → count ≡ suc rest → made ≡ f place
    → after ≡ decided_all plan (made_at place made) → decided_all after (made_from f (place + 1) rest) ≡ decided_all plan (made_from f place count)
one_more f plan after place rest count made more is here =
    rw (here, more, is) (sym (decided_all-append plan (made_at place (f place)) (made_from f (place + 1) rest)))

-- where nothing is decided for some places, there are no decisions
pub none_from : (f : ℕ → Option Slot) (at n : ℕ) → ((place : ℕ) → at ≤ place → place < at + n → f place ≡ None) → made_from f at n ≡ []
none_from f at zero none = refl
none_from f at (suc n) none =
    ap (λ d. made_at at d ++ made_from f (at + 1) n) (none at (omega arith) (omega arith))
    ∙ none_from f (at + 1) n (λ place low high. none place (omega (arith, low)) (omega (arith, high)))

-- where nothing is decided for the places up to an end, those behind it are left
pub none_between : (f : ℕ → Option Slot) (plan : List (Option Slot)) (at end total : ℕ) → at ≤ end → end ≤ total → ((place : ℕ) → at ≤ place → place < end → f place ≡ None)
    → decided_all plan (made_from f end (total - end)) ≡ decided_all plan (made_from f at (total - at))
none_between f plan at end total low high none =
    from_on f plan plan at end total low high (sym (ap (decided_all plan) (none_from f at (end - at) (λ place from within. none place from (omega (arith, within, low))))))

-- ## The first decision for a place

-- the first of two that there is
abbrev pub first_of : Option Slot → Option Slot → Option Slot
first_of None later = later
first_of (Some slot) later = Some slot

none_at : (at place : ℕ) (made : Option Slot) (rest : List (ℕ × Slot)) → at ≢ place → first_for place (made_at at made ++ rest) ≡ first_for place rest
none_at at place None rest other = refl
none_at at place (Some slot) rest other = ap (λ (b : Bool). if b then Some slot else first_for place rest) (ne_eqb at place other)

here_at : (at place : ℕ) (made : Option Slot) (rest : List (ℕ × Slot)) → at ≡ place → first_for place (made_at at made ++ rest) ≡ first_of made (first_for place rest)
here_at at place None rest same = refl
here_at at place (Some slot) rest same = ap (λ (b : Bool). if b then Some slot else first_for place rest) (eq-eqb at place same)

-- decisions for later places
none_later : (f : ℕ → Option Slot) (at count place : ℕ) (rest : List (ℕ × Slot)) → place < at → first_for place (made_from f at count ++ rest) ≡ first_for place rest
none_later f at zero place rest before = refl
none_later f at (suc count) place rest before =
    ap (first_for place) (append_assoc (made_at at (f at)) (made_from f (at + 1) count) rest)
    ∙ (none_at at place (f at) (made_from f (at + 1) count ++ rest) (λ e. absurd (omega (arith, before, e)))
    ∙ none_later f (at + 1) count place rest (omega arith))

same_or_other : (a b : ℕ) → (a ≡ b) ⊎ (a ≢ b)
same_or_other a b = grind arith

-- the first decision for a place is the one that is made for it
pub first_from : (f : ℕ → Option Slot) (at count place : ℕ) (rest : List (ℕ × Slot)) → at ≤ place → place < at + count
    → first_for place (made_from f at count ++ rest) ≡ first_of (f place) (first_for place rest)
first_from f at zero place rest from within = absurd (omega (arith, from, within))
first_from f at (suc count) place rest from within =
    let later : List (ℕ × Slot) = made_from f (at + 1) count ++ rest in
    ap (first_for place) (append_assoc (made_at at (f at)) (made_from f (at + 1) count) rest)
    ∙ elim (same_or_other at place) [
      | inl e ↦
          here_at at place (f at) later e
          ∙ (ap (first_of (f at)) (none_later f (at + 1) count place rest (omega (arith, e)))
          ∙ ap (λ (x : ℕ). first_of (f x) (first_for place rest)) e)
      | inr ne ↦
          none_at at place (f at) later ne
          ∙ first_from f (at + 1) count place rest (grind (arith, from, ne)) (omega (arith, within))
    ]
