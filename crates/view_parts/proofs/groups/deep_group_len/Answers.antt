use Rattle.std.proofs.Common.{◌≡◌, ◌∙◌, ◌+◌, ◌-◌, ◌<◌, ◌⊎◌, inl, inr, ℕ, Bool, true, false, not, List, [], ◌∷◌, append-nil, length, get_or, drop, take, refl, sym, ap, ap₂, subst, arith}
use Rattle.std.specs.Prelude.{if◌then◌else◌, replicate}
use Rattle.std.proofs.lemmas.List.{get_or-drop, get_or-take}
use Rattle.std.proofs.lemmas.Simd.{length-replicate}
use Rattle.token_classes.specs.declared.class.TokenClass.{TokenClass}
use Rattle.token_classes.specs.declared.class.TokenClass.TheVariants.{If, OpenRound, OpenSquare}
use Rattle.part_walk.specs.declared.walk.Around.TheVariants.{Group}
use Rattle.view_parts.specs.Quiet.{ClosesGroup, is_quiet, kinds_in}
use Rattle.view_parts.proofs.OpenGroups.{OpenIn, opens_more}
use Rattle.view_parts.proofs.groups.deep_group_len.Goals.{else-kinds-eq0-via-then-kinds-eq0+else-not-kinds, else-kinds-eq0-via-else-kinds-eq0}
use Rattle.view_parts.proofs.groups.deep_group_len.Goals as goal

-- the tokens that are passed at once, by their places in all
of_all : (classes : List TokenClass) (count n : ℕ) → count + n < length classes → ((k : ℕ) → (d : TokenClass) → k < n → is_quiet Group false (get_or (take (length classes - count) (drop count classes)) k d) ≡ true)
    → (k : ℕ) → k < n → is_quiet Group false (get_or classes (count + k) If) ≡ true
of_all classes count n within quiet k below =
    ap (λ (class : TokenClass). is_quiet Group false class) (sym (get_or-take (length classes - count) (drop count classes) k If (omega (arith, below, within)) ∙ get_or-drop count classes k If)) ∙ quiet k If below

some_kinds : (rounds : ℕ) (square : Bool) → (0 < rounds) ⊎ (square ≡ true) → 0 < length (if square then OpenSquare ∷ replicate rounds OpenRound else replicate rounds OpenRound)
some_kinds rounds true some = omega arith
some_kinds rounds false (inl some) = omega (arith, some, length-replicate rounds OpenRound)
some_kinds rounds false (inr some) = cc

is_false : (b : Bool) → not b ≡ true → b ≡ false
is_false true is = cc
is_false false is = refl

is_true : (b : Bool) → not b ≡ false → b ≡ true
is_true true is = refl
is_true false is = cc

pub open_behind-requires-clause-few : goal.open_behind-requires-clause-few
open_behind-requires-clause-few c = omega (arith, c.loop-count.invariant.few, c.loop-count-test.true, c.requires.few)

pub returns-then-not-kinds-clause-closes : goal.returns-then-not-kinds-clause-closes
returns-then-not-kinds-clause-closes c =
    let classes = c.args.classes.now in
    let inv = c.loop-count.invariant in
    let count = c.loop-count.count in
    let n = c.quiet_len.result in
    let kinds = kinds_in c.loop-count.kinds in
    let next = c.in_ok-kinds.ensures in
    let within : count + n < length classes = omega (arith, c.if-next-most.false, c.requires.most) in
    let opens = opens_more c.args.opener classes count n kinds If within inv.some (of_all classes count n within c.quiet_len.ensures.quiet) next.stands inv.on in
    let none : kinds_in c.in_ok-kinds.kinds ≡ [] = ap₂ (λ (b : Bool) (n : ℕ). if b then OpenSquare ∷ replicate n OpenRound else replicate n OpenRound) (is_false _ c.if-not-kinds.true) c.if-kinds-eq0.true in
    subst (λ (cs : List TokenClass). ClosesGroup (c.args.opener ∷ []) cs) (append-nil (take (count + n + 1) classes)) (opens [] (sym next.kinds ∙ none))

pub loop-count-preserved : goal.loop-count-preserved
loop-count-preserved c =
    let classes = c.args.classes.now in
    let inv = c.loop-count.invariant in
    let count = c.loop-count.count in
    let n = c.quiet_len.result in
    let kinds = kinds_in c.loop-count.kinds in
    let next = c.in_ok-kinds.ensures in
    let within : count + n < length classes = omega (arith, c.if-next-most.false, c.requires.most) in
    let opens = opens_more c.args.opener classes count n kinds If within inv.some (of_all classes count n within c.quiet_len.ensures.quiet) next.stands inv.on in
    let some : (0 < c.in_ok-kinds.kinds.rounds) ⊎ (c.in_ok-kinds.kinds.square ≡ true) = elim c.else-kinds-eq0.branch [
      | else-kinds-eq0-via-then-kinds-eq0+else-not-kinds w ↦ inr (is_true _ w.if-not-kinds.false)
      | else-kinds-eq0-via-else-kinds-eq0 w ↦ inl (omega (arith, w.if-kinds-eq0.false))
    ] in
    record {
      within = omega (arith, c.if-next-most.false);
      some = some_kinds c.in_ok-kinds.kinds.rounds c.in_ok-kinds.kinds.square some;
      few = omega (arith, inv.few, next.few);
      on = subst (λ (ks : List TokenClass). OpenIn c.args.opener classes (count + n + 1) ks) (sym next.kinds) opens;
    }
