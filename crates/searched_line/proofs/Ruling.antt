-- What the tables say of a line's gaps, one after another.
use Rattle.std.proofs.Common.{◌≡◌, ℕ, suc, ◌+◌, ◌-◌, ◌<◌, ◌≤◌, inl, inr, Option, Some, None, List, [], ◌∷◌, ◌++◌, length, length-append}
use Rattle.std.proofs.Common.{slice_get, arith, ap, sym, ◌∙◌, subst}
use Rattle.std.proofs.lemmas.Bool.{cases_eq}
use Rattle.std.proofs.lemmas.Option.{slice_get_within}
use Rattle.frame_store.proofs.Edits.{at_push}
use Rattle.line_tokens.specs.declared.LineTok.{LineTok}
use Rattle.line_tokens.specs.declared.Fixed.{Fixed}
use Rattle.style_table.specs.declared.style.Style.{Style}
use Rattle.line_state.specs.declared.gap.GapRules.{GapRules}
use Rattle.searched_line.specs.declared.ahead.GapAhead.{GapAhead}
use Rattle.line_state.specs.Layout.{AreRules}
use Rattle.line_state.specs.Line.{Line, decision_at, joined}
use Rattle.line_state.specs.Beside.{IsAside, IsRow}
use Rattle.searched_line.specs.Rules.{IsGapAhead, HaveGaps}

some_same : {A : Type 0} (x y : A) → Some x ≡ Some y → x ≡ y
some_same x y e = cc

-- what is known of the gaps before the last tokens
pub record AreTold (style : Style) (tokens : List LineTok) (fixed : List (Option Fixed)) (gaps : List GapAhead) (n : ℕ) : Type 0 where
  pub count : length gaps ≡ n + 1
  pub told : (at : ℕ) (left right : LineTok) (gap : GapAhead) → 0 < at → length tokens - at ≤ n → slice_get tokens (at - 1) ≡ Some left → slice_get tokens at ≡ Some right → slice_get gaps (length tokens - at) ≡ Some gap → IsGapAhead style left right (joined (slice_get fixed at)) gap

pub none_told : (style : Style) (tokens : List LineTok) (fixed : List (Option Fixed)) (before gaps : List GapAhead) (gap : GapAhead) → before ≡ [] → gaps ≡ before ++ gap ∷ [] → AreTold style tokens fixed gaps 0
none_told style tokens fixed before gaps gap none is = record {
  count = omega (arith, ap length is, length-append before (gap ∷ []), ap length none);
  told = λ at left right w some near al ar aw. absurd (omega (arith, near, slice_get_within tokens at right ar));
}

pub one_more_told : (style : Style) (tokens : List LineTok) (fixed : List (Option Fixed)) (gaps new : List GapAhead) (n at : ℕ) (left right : LineTok) (decision : Option Fixed) (gap : GapAhead) → AreTold style tokens fixed gaps n → at ≡ length tokens - suc n → 0 < at → at < length tokens → slice_get tokens (at - 1) ≡ Some left → slice_get tokens at ≡ Some right →
    decision ≡ joined (slice_get fixed at) → IsGapAhead style left right decision gap → new ≡ gaps ++ gap ∷ [] → AreTold style tokens fixed new (n + 1)
one_more_told style tokens fixed gaps new n at left right decision gap told here some within at_left at_right decided are is = subst (λ (gs : List GapAhead). AreTold style tokens fixed gs (n + 1)) (sym is) (record {
  count = omega (arith, length-append gaps (gap ∷ []), told.count);
  told = λ i l r x some_i near al ar ax. elim (cases_eq (length tokens - i) (n + 1)) [
    | inr ne ↦ told.told i l r x some_i (omega (arith, near, ne)) al ar (sym ((at_push gaps gap).others (length tokens - i) (λ e. ne (omega (arith, e, told.count)))) ∙ ax)
    | inl e ↦
        let place : i ≡ at = omega (arith, e, here, within, some, slice_get_within tokens i r ar) in
        let same_left : left ≡ l = some_same left l (sym at_left ∙ ap (λ (k : ℕ). slice_get tokens (k - 1)) (sym place) ∙ al) in
        let same_right : right ≡ r = some_same right r (sym at_right ∙ ap (λ (k : ℕ). slice_get tokens k) (sym place) ∙ ar) in
        let last : length tokens - i ≡ length gaps = omega (arith, e, told.count) in
        let same : gap ≡ x = some_same gap x (sym (at_push gaps gap).here ∙ ap (λ (k : ℕ). slice_get (gaps ++ gap ∷ []) k) (sym last) ∙ ax) in
        let same_decision : decision ≡ joined (slice_get fixed i) = decided ∙ ap (λ (k : ℕ). joined (slice_get fixed k)) (sym place) in
        subst (λ (y : GapAhead). IsGapAhead style l r (joined (slice_get fixed i)) y) same
        (subst (λ (d : Option Fixed). IsGapAhead style l r d gap) same_decision (subst (λ (t : LineTok). IsGapAhead style l t decision gap) same_right (subst (λ (t : LineTok). IsGapAhead style t right decision gap) same_left are)))
  ];
})

-- with one more for all tokens they are a line's
pub all_told : (style : Style) (tokens : List LineTok) (fixed : List (Option Fixed)) (gaps new : List GapAhead) (none : GapAhead) (n : ℕ) → AreTold style tokens fixed gaps n → n + 1 ≡ length tokens → new ≡ gaps ++ none ∷ [] → HaveGaps style tokens fixed new
all_told style tokens fixed gaps new none n told all is = subst (λ (gs : List GapAhead). HaveGaps style tokens fixed gs) (sym is) (record {
  count = omega (arith, length-append gaps (none ∷ []), told.count, all);
  told = λ at left right gap some al ar ag.
      told.told at left right gap some (omega (arith, all, some)) al ar (sym ((at_push gaps none).others (length tokens - at) (λ e. omega (arith, e, told.count, all, some, slice_get_within tokens at right ar))) ∙ ag);
})

-- .. before a token of a line
module _ (style : Style) (tokens : List LineTok) (fixed : List (Option Fixed)) (gaps : List GapAhead) (line : Line) (at : ℕ) (same_style : style ≡ line.style) (same_tokens : tokens ≡ line.tokens) (same_fixed : fixed ≡ line.fixed) (have : HaveGaps style tokens fixed gaps) (some : 0 < at) where
  pub gap_within : at < length line.tokens → length tokens - at < length gaps
  gap_within within = omega (arith, within, some, have.count, ap length same_tokens)

  pub gap_before_token : (gap : GapAhead) → slice_get gaps (length tokens - at) ≡ Some gap → (left right : LineTok) → slice_get line.tokens (at - 1) ≡ Some left → slice_get line.tokens at ≡ Some right → IsGapAhead line.style left right (decision_at line at) gap
  gap_before_token gap is left right at_left at_right =
      let one : slice_get tokens (at - 1) ≡ Some left = ap (λ (ts : List LineTok). slice_get ts (at - 1)) same_tokens ∙ at_left in
      let other : slice_get tokens at ≡ Some right = ap (λ (ts : List LineTok). slice_get ts at) same_tokens ∙ at_right in
      let decided : joined (slice_get fixed at) ≡ decision_at line at = ap (λ (fs : List (Option Fixed)). joined (slice_get fs at)) same_fixed in
      subst (λ (d : Option Fixed). IsGapAhead line.style left right d gap) decided (subst (λ (s : Style). IsGapAhead s left right (joined (slice_get fixed at)) gap) same_style (have.told at left right gap some one other is))

-- .. in another's style
pub ruled_by : (style other : Style) (left right : LineTok) (rule : GapRules) → style ≡ other → AreRules other left right rule → AreRules style left right rule
ruled_by style other left right rule same are = subst (λ (s : Style). AreRules s left right rule) (sym same) are

-- a token that stays aside has no decision
pub undecided : (style other : Style) (left right : LineTok) (decision : Option Fixed) (width : ℕ) → style ≡ other → IsAside other left right decision width → IsAside style left right None width
undecided style other left right decision width same aside = subst (λ (d : Option Fixed). IsAside style left right d width) aside.free (subst (λ (s : Style). IsAside s left right decision width) (sym same) aside)

-- .. nor has one that begins a row
pub undecided_row : (style other : Style) (left right : LineTok) (decision : Option Fixed) (width : ℕ) → style ≡ other → IsRow other left right decision width → IsRow style left right None width
undecided_row style other left right decision width same row = subst (λ (d : Option Fixed). IsRow style left right d width) row.free (subst (λ (s : Style). IsRow s left right decision width) (sym same) row)
