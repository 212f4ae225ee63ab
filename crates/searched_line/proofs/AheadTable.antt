-- What is known of a line's stretches, from the last token to the first.
use Rattle.std.proofs.Common.{◌≡◌, ℕ, ◌+◌, ◌-◌, ◌<◌, inl, inr, Option, Some, List, [], ◌∷◌, ◌++◌, length, length-append}
use Rattle.std.proofs.Common.{slice_get, refl, arith, ap, sym, ◌∙◌, subst, suc}
use Rattle.std.proofs.lemmas.Bool.{cases_eq}
use Rattle.frame_store.proofs.Edits.{at_push}
use Rattle.line_tokens.specs.declared.LineTok.{LineTok}
use Rattle.line_tokens.specs.declared.Fixed.{Fixed}
use Rattle.layout_tables.specs.declared.penalties.GapRule.{GapRule}
use Rattle.line_state.specs.declared.gap.Gap.{Gap}
use Rattle.line_state.specs.declared.gap.GapRules.{GapRules}
use Rattle.line_state.specs.Layout.{AreRules}
use Rattle.line_state.specs.Line.{Line, gap_at, joined}
use Rattle.line_state.proofs.Steps.{IsGap, is_gap, gap_there}
use Rattle.searched_line.specs.Ahead.{no_stretch, stretch_with, stretch_over, stretch_of, stretch_in, HaveStretches}
use Rattle.searched_line.specs.Rules.{rules_in}
use Rattle.searched_line.specs.declared.ahead.Stretch.{Stretch}
use Rattle.searched_line.specs.declared.ahead.GapAhead.{GapAhead}
use Rattle.searched_line.proofs.AheadSteps.{rules_of}

some_same : {A : Type 0} (x y : A) → Some x ≡ Some y → x ≡ y
some_same x y e = cc

-- the stretches of up to n tokens, of which the last is the next one's
pub record AreStretched (line : Line) (gaps : List GapAhead) (next : Stretch) (n : ℕ) : Type 0 where
  pub count : length gaps ≡ n + 1
  pub last : next ≡ stretch_of line n
  pub told : (m : ℕ) (gap : GapAhead) → slice_get gaps m ≡ Some gap → stretch_in gap ≡ stretch_of line m

nothing : (m : ℕ) (x : GapAhead) → slice_get [] m ≡ Some x → ⊥
nothing m x e = cc

-- one more of them
told_more : (line : Line) (gaps : List GapAhead) (new : GapAhead) (n : ℕ) → length gaps ≡ n → stretch_in new ≡ stretch_of line n → ((m : ℕ) (x : GapAhead) → slice_get gaps m ≡ Some x → stretch_in x ≡ stretch_of line m) → (m : ℕ) (x : GapAhead) → slice_get (gaps ++ new ∷ []) m ≡ Some x → stretch_in x ≡ stretch_of line m
told_more line gaps new n count is told m x at = elim (cases_eq m n) [
  | inr ne ↦ told m x (sym ((at_push gaps new).others m (λ e. ne (omega (arith, e, count)))) ∙ at)
  | inl e ↦
      let place : m ≡ length gaps = omega (arith, e, count) in
      let same : new ≡ x = some_same new x (sym (at_push gaps new).here ∙ ap (λ (k : ℕ). slice_get (gaps ++ new ∷ []) k) (sym place) ∙ at) in
      ap (λ (g : GapAhead). stretch_in g) (sym same) ∙ is ∙ ap (λ (k : ℕ). stretch_of line k) (sym e)
]

pub first_stretched : (line : Line) (before gaps : List GapAhead) (gap : GapAhead) (next : Stretch) → before ≡ [] → stretch_in gap ≡ no_stretch → next ≡ no_stretch → gaps ≡ before ++ gap ∷ [] → AreStretched line gaps next 0
first_stretched line before gaps gap next none is last made =
    let all : gaps ≡ [] ++ gap ∷ [] = made ∙ ap (λ (xs : List GapAhead). xs ++ gap ∷ []) none in
    subst (λ (xs : List GapAhead). AreStretched line xs next 0) (sym all) (record { count = refl; last = last; told = told_more line [] gap 0 refl is (λ m x at. absurd (nothing m x at)) })

-- the stretch of one token more
one_longer : (line : Line) (n at : ℕ) (rule : GapRules) (left token : LineTok) (decision : Option Fixed) (next : Stretch) → at ≡ length line.tokens - suc n → 0 < at → at < length line.tokens → AreRules line.style left token rule → slice_get line.tokens (at - 1) ≡ Some left → slice_get line.tokens at ≡ Some token → decision ≡ joined (slice_get line.fixed at) →
    next ≡ stretch_of line n → stretch_with rule token decision next ≡ stretch_of line (suc n)
one_longer line n at rule left token decision next is some within ruled at_left at_token decided follows =
    let there = gap_there line at some within in
    let gap : Gap = there.0 in
    let g : IsGap line at gap = is_gap line at gap there.1 in
    let same : token ≡ gap.right = some_same token gap.right (sym at_token ∙ g.right) in
    let beside : left ≡ gap.left = some_same left gap.left (sym at_left ∙ g.left) in
    let are : AreRules line.style gap.left gap.right rule = subst (λ (t : LineTok). AreRules line.style gap.left t rule) same (subst (λ (t : LineTok). AreRules line.style t token rule) beside ruled) in
    let here : gap_at line (length line.tokens - suc n) ≡ Some gap = ap (λ (k : ℕ). gap_at line k) (sym is) ∙ there.1 in
    ap (λ (x : GapRule). stretch_with (record { rule = x; spaces = rule.spaces }) token decision next) are.rule
    ∙ ap (λ (x : ℕ). stretch_with (record { rule = (rules_of line.style gap).rule; spaces = x }) token decision next) are.spaces
    ∙ ap (λ (t : LineTok). stretch_with (rules_of line.style gap) t decision next) same
    ∙ ap (λ (d : Option Fixed). stretch_with (rules_of line.style gap) gap.right d next) (decided ∙ g.fixed)
    ∙ ap (λ (x : Stretch). stretch_with (rules_of line.style gap) gap.right gap.fixed x) follows
    ∙ ap (λ (o : Option Gap). stretch_over line.style o (stretch_of line n)) (sym here)

pub one_more_stretched : (line : Line) (gaps new : List GapAhead) (n at : ℕ) (left token : LineTok) (decision : Option Fixed) (next : Stretch) (longer : GapAhead) → AreStretched line gaps next n → at ≡ length line.tokens - suc n → 0 < at → at < length line.tokens → AreRules line.style left token (rules_in longer) →
    slice_get line.tokens (at - 1) ≡ Some left → slice_get line.tokens at ≡ Some token → decision ≡ joined (slice_get line.fixed at) → stretch_in longer ≡ stretch_with (rules_in longer) token decision next → new ≡ gaps ++ longer ∷ [] → AreStretched line new (stretch_in longer) (n + 1)
one_more_stretched line gaps new n at left token decision next longer are is some within ruled at_left at_token decided made pushed =
    let count : suc n ≡ n + 1 = omega arith in
    let last : stretch_in longer ≡ stretch_of line (n + 1) = made ∙ one_longer line n at (rules_in longer) left token decision next is some within ruled at_left at_token decided are.last ∙ ap (λ (k : ℕ). stretch_of line k) count in
    subst (λ (xs : List GapAhead). AreStretched line xs (stretch_in longer) (n + 1)) (sym pushed) (record {
      count = omega (arith, length-append gaps (longer ∷ []), are.count);
      last = last;
      told = told_more line gaps longer (n + 1) are.count last are.told;
    })

-- with that of all tokens, before whose first no gap lies, they are a line's
pub all_stretched : (line : Line) (gaps new : List GapAhead) (next : Stretch) (none : GapAhead) (n : ℕ) → AreStretched line gaps next n → n + 1 ≡ length line.tokens → stretch_in none ≡ no_stretch → new ≡ gaps ++ none ∷ [] → HaveStretches line new
all_stretched line gaps new next none n are all is pushed =
    let first : length line.tokens - suc n ≡ 0 = omega (arith, all) in
    let count : suc n ≡ n + 1 = omega arith in
    let whole : stretch_in none ≡ stretch_of line (n + 1) = is ∙ ap (λ (i : ℕ). stretch_over line.style (gap_at line i) (stretch_of line n)) (sym first) ∙ ap (λ (k : ℕ). stretch_of line k) count in
    subst (λ (xs : List GapAhead). HaveStretches line xs) (sym pushed) (record {
      count = omega (arith, length-append gaps (none ∷ []), are.count, all);
      told = told_more line gaps none (n + 1) are.count whole are.told;
    })
