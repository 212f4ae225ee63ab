-- What is known to come is a lower bound, and isn't larger from a smaller column.
use Rattle.std.proofs.Common.{◌≡◌, ℕ, ◌+◌, ◌-◌, ◌*◌, ◌<◌, ◌≤◌, min, Bool, true, false, if◌then◌else◌, Option, Some, None, List, length, refl, arith, ap, suc, zero}
use Rattle.std.proofs.lemmas.Nat.{mul-le}
use Rattle.line_state.proofs.Bounds.{IsBound}
use Rattle.line_state.proofs.Ways.{Reached}
use Rattle.line_tokens.specs.Columns.{columns}
use Rattle.line_tokens.specs.declared.LineTok.{LineTok}
use Rattle.line_tokens.specs.declared.Fixed.{Fixed}
use Rattle.line_state.specs.declared.gap.Gap.{Gap}
use Rattle.line_state.specs.declared.gap.GapRules.{GapRules}
use Rattle.line_state.specs.Layout.{Layout}
use Rattle.line_state.specs.Line.{Line, gaps, gap_at, first_layout, Step}
use Rattle.line_state.proofs.Steps.{placing, index_of, first_index}
use Rattle.searched_line.specs.Saturation.{reach, IsNarrow}
use Rattle.searched_line.specs.Ahead.{no_stretch, can_stay, stretch_with, stretch_over, stretch_of, stretch_ahead, excess_ahead, least_ahead}
use Rattle.searched_line.specs.declared.ahead.Stretch.{Stretch}
use Rattle.searched_line.proofs.AheadSums.{excess_falls}
use Rattle.searched_line.proofs.AheadSteps.{none_ahead, falls, rules_of}

-- a step costs what is known to come, but for what is known behind it
pub step_falls : (line : Line) (s t : Layout) (k : ℕ) (b : Bool) → Step line s b t k → least_ahead line s ≤ k + least_ahead line t
step_falls line s t k b go = falls line s b t k (placing line s b t k go)

-- behind the last token nothing is known to come
pub ends_at : (line : Line) (s : Layout) → s.index ≡ length line.tokens → least_ahead line s ≡ 0
ends_at line s e =
    let none : length line.tokens - s.index ≡ 0 = omega (arith, e) in
    none_ahead line s (ap (λ (n : ℕ). stretch_of line n) none)

pub whole_ends : (line : Line) → 0 < length line.tokens → (r : List Bool) (s : Layout) (c : ℕ) → length r ≡ gaps line → Reached (Step line) (first_layout line) r s c → least_ahead line s ≡ 0
whole_ends line some r s c count h = ends_at line s (omega (arith, index_of line (first_layout line) r s c h, first_index line some, count, some))

with_small : (rules : GapRules) (token : LineTok) (decision : Option Fixed) (next : Stretch) → next.least ≤ 18446744073709551615 → (stretch_with rules token decision next).least ≤ 18446744073709551615
with_small rules token decision next h = by_flags (can_stay rules.rule token decision) rules.rule.can
  where
    by_flags : (stays can : Bool) → (if stays then (record { width = columns (columns rules.spaces token.first_width) next.width; least = if can then min rules.rule.cost next.least else next.least }) else no_stretch).least ≤ 18446744073709551615
    by_flags false can = omega arith
    by_flags true true = omega (arith, h)
    by_flags true false = omega (arith, h)

over_small : (line : Line) (o : Option Gap) (next : Stretch) → next.least ≤ 18446744073709551615 → (stretch_over line.style o next).least ≤ 18446744073709551615
over_small line None next h = omega arith
over_small line (Some gap) next h = with_small (rules_of line.style gap) gap.right gap.fixed next h

-- so it is a bound of the search
pub is_bound : (line : Line) → 0 < length line.tokens → IsBound (Step line) (least_ahead line) (first_layout line) (gaps line)
is_bound line some = record { falls = λ r s t c k b h go. step_falls line s t k b go; ends = λ r s c count h. whole_ends line some r s c count h }

stretch_small : (line : Line) (n : ℕ) → (stretch_of line n).least ≤ 18446744073709551615
stretch_small line zero = omega arith
stretch_small line (suc n) = over_small line (gap_at line (length line.tokens - suc n)) (stretch_of line n) (stretch_small line n)

-- it is a number that can be told
pub small : (line : Line) (s : Layout) → least_ahead line s ≤ 18446744073709551615
small line s = omega (arith, stretch_small line (length line.tokens - s.index))

with_width : (rules : GapRules) (token : LineTok) (decision : Option Fixed) (next : Stretch) → (stretch_with rules token decision next).width ≤ rules.spaces + token.first_width + next.width
with_width rules token decision next = by_flag (can_stay rules.rule token decision)
  where
    by_flag : (stays : Bool) → (if stays then (record { width = columns (columns rules.spaces token.first_width) next.width; least = if rules.rule.can then min rules.rule.cost next.least else next.least }) else no_stretch).width ≤ rules.spaces + token.first_width + next.width
    by_flag false = omega arith
    by_flag true = omega arith

module _ (line : Line) (narrow : IsNarrow line) where
  gap_within : (i : ℕ) (gap : Gap) → gap_at line i ≡ Some gap → reach line.style gap ≤ narrow.width
  gap_within zero gap e = absurd (none_some gap e)
    where
      none_some : {A : Type 0} (x : A) → None ≡ Some x → ⊥
      none_some x e = cc
  gap_within (suc i) gap e = narrow.each (suc i) gap e

  over_within : (i n : ℕ) (o : Option Gap) (next : Stretch) → gap_at line i ≡ o → next.width ≤ n * narrow.width → (stretch_over line.style o next).width ≤ suc n * narrow.width
  over_within i n None next e h = omega arith
  over_within i n (Some gap) next e h = omega (arith, with_width (rules_of line.style gap) gap.right gap.fixed next, h, gap_within i gap e)

  stretch_within : (n : ℕ) → (stretch_of line n).width ≤ n * narrow.width
  stretch_within zero = omega arith
  stretch_within (suc n) = over_within (length line.tokens - suc n) n (gap_at line (length line.tokens - suc n)) (stretch_of line n) refl (stretch_within n)

  -- from a column that isn't larger no more is known to come
  pub lower : (t s : Layout) → t.index ≡ s.index → t.column ≤ s.column → s.column + (length line.tokens - s.index) * narrow.width ≤ 4294967295 → least_ahead line t ≤ least_ahead line s
  lower t s index column room =
      let same : stretch_ahead line t ≡ stretch_ahead line s = ap (λ (i : ℕ). stretch_of line (length line.tokens - i)) index in
      let width : (stretch_ahead line t).width ≡ (stretch_ahead line s).width = ap (λ (x : Stretch). x.width) same in
      let least : (stretch_ahead line t).least ≡ (stretch_ahead line s).least = ap (λ (x : Stretch). x.least) same in
      let fits : s.column + (stretch_ahead line s).width ≤ 4294967295 = omega (arith, stretch_within (length line.tokens - s.index), room) in
      let less : excess_ahead line t ≤ excess_ahead line s = omega (arith, width, excess_falls line.style.column_limit t.column s.column (stretch_ahead line s).width column fits) in
      omega (arith, least, mul-le line.style.penalty_excess_character (excess_ahead line t) line.style.penalty_excess_character (excess_ahead line s) (omega arith) less)
