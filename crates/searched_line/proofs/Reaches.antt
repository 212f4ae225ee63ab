-- The gap before each token of a line, and how far it moves a column.
use Rattle.std.proofs.Common.{◌≡◌, ℕ, ◌+◌, ◌-◌, ◌*◌, ◌/◌, ◌<◌, ◌≤◌, inl, inr, Option, Some, length, arith, ap, sym, ◌∙◌, subst, suc, zero, slice_get}
use Rattle.std.proofs.Math.Nat.{mul-div-le}
use Rattle.std.proofs.lemmas.Bool.{cases_eq}
use Rattle.std.proofs.lemmas.Nat.{mul-le}
use Rattle.line_tokens.specs.Columns.{stored_or}
use Rattle.line_tokens.specs.declared.LineTok.{LineTok}
use Rattle.line_tokens.specs.declared.Fixed.{Fixed}
use Rattle.line_state.specs.declared.gap.Gap.{Gap}
use Rattle.line_state.specs.declared.gap.GapRules.{GapRules}
use Rattle.line_state.specs.Layout.{AreRules}
use Rattle.line_state.specs.Line.{Line, decision_at}
use Rattle.line_state.proofs.Steps.{is_first, IsGap, is_gap}
use Rattle.searched_line.specs.Saturation.{gap_into, reach, IsNarrow}

record IsInto (line : Line) (at : ℕ) (gap : Gap) : Type 0 where
  pub left : slice_get line.tokens (at - 1) ≡ Some gap.left
  pub right : slice_get line.tokens at ≡ Some gap.right
  pub fixed : decision_at line at ≡ gap.fixed
  pub within : at < length line.tokens

some_same : {A : Type 0} (x y : A) → Some x ≡ Some y → x ≡ y
some_same x y e = cc

is_into : (line : Line) → 0 < length line.tokens → (at : ℕ) (gap : Gap) → gap_into line at ≡ Some gap → IsInto line at gap
is_into line some zero gap e =
    let f = is_first line some in
    let same : f.0 ≡ gap = some_same f.0 gap (sym f.1.at ∙ e) in
    subst (λ (g : Gap). IsInto line 0 g) same (record { left = f.1.token; right = f.1.token ∙ ap (λ (t : LineTok). Some t) (sym f.1.same); fixed = f.1.fixed; within = some })
is_into line some (suc i) gap e = let g : IsGap line (suc i) gap = is_gap line (suc i) gap e in record { left = g.left; right = g.right; fixed = g.fixed; within = g.within }

pub reaches : (line : Line) → 0 < length line.tokens → (at : ℕ) (rules : GapRules) (token : LineTok) (decision : Option Fixed) (far : ℕ) →
    ((left right : LineTok) → slice_get line.tokens (at - 1) ≡ Some left → slice_get line.tokens at ≡ Some right → AreRules line.style left right rules) → slice_get line.tokens at ≡ Some token → decision ≡ decision_at line at →
    far ≡ rules.spaces + stored_or decision 0 + token.first_width + token.last_width + line.style.continuation_indent_width → (gap : Gap) → gap_into line at ≡ Some gap → reach line.style gap ≤ far
reaches line some at rules token decision far told there decided is gap e =
    let g : IsInto line at gap = is_into line some at gap e in
    let same : token ≡ gap.right = some_same token gap.right (sym there ∙ g.right) in
    let blanks = (told gap.left gap.right g.left g.right).spaces in
    let stored : stored_or decision 0 ≡ stored_or gap.fixed 0 = ap (λ (f : Option Fixed). stored_or f 0) (decided ∙ g.fixed) in
    omega (arith, is, blanks, stored, ap (λ (t : LineTok). t.first_width) same, ap (λ (t : LineTok). t.last_width) same)

-- how far the first tokens move a column
abbrev pub AreWithin : Line → ℕ → ℕ → Type 0
AreWithin line n width = (i : ℕ) (gap : Gap) → i < n → gap_into line i ≡ Some gap → reach line.style gap ≤ width

pub one_more_within : (line : Line) (n width far new : ℕ) → AreWithin line n width → ((gap : Gap) → gap_into line n ≡ Some gap → reach line.style gap ≤ far) → width ≤ new → far ≤ new → AreWithin line (n + 1) new
one_more_within line n width far new all here w f i gap less at = elim (cases_eq i n) [
  | inl e ↦ (let h : reach line.style gap ≤ far = here gap (subst (λ (j : ℕ). gap_into line j ≡ Some gap) e at) in omega (arith, h, f))
  | inr ne ↦ (let h : reach line.style gap ≤ width = all i gap (omega (arith, less, ne)) at in omega (arith, h, w))
]

pub narrow_line : (line : Line) → 0 < length line.tokens → (column count n width : ℕ) → column ≡ line.column → count ≡ length line.tokens → count ≤ n → AreWithin line n width → column + (count + 1) * width ≤ 4294967295 → IsNarrow line
narrow_line line some column count n width starts is up all room = record {
  width = width;
  each = λ i gap at. all i gap (omega (arith, (is_into line some i gap at).within, is, up)) at;
  room = subst (λ (k : ℕ). line.column + (k + 1) * width ≤ 4294967295) is (omega (arith, starts, room));
}

-- so many times a width fit where it is within the share of each
pub fits : (column room count width : ℕ) → column < 4294967296 → room ≡ 4294967295 - column → width ≤ room / (count + 1) → column + (count + 1) * width ≤ 4294967295
fits column room count width small is h =
    let all : (count + 1) * width ≤ (count + 1) * (room / (count + 1)) = mul-le (count + 1) width (count + 1) (room / (count + 1)) (omega arith) h in
    let share : (count + 1) * (room / (count + 1)) ≤ room = mul-div-le room (count + 1) in
    omega (arith, small, is, all, share)
