-- A step takes no more off what is known to come than it costs.
use Rattle.std.proofs.Common.{◌≡◌, ℕ, ◌+◌, ◌-◌, ◌*◌, ◌<◌, ◌≤◌, ◌==◌, min, max, Bool, true, false, ◌&&◌, not, nat_lt, if◌then◌else◌, Option, Some, None, length, refl, arith, ap, sym, ◌∙◌, suc}
use Rattle.std.proofs.lemmas.Bool.Decides.{nat_tests}
use Rattle.line_tokens.specs.Columns.{columns, stored_or}
use Rattle.line_tokens.specs.Roles.{is_trailing}
use Rattle.line_tokens.specs.declared.Fixed.{Fixed}
use Rattle.style_table.specs.declared.style.Style.{Style}
use Rattle.layout_tables.specs.declared.penalties.GapRule.{GapRule}
use Rattle.layout_tables.specs.Breaks.{gap_rule}
use Rattle.layout_tables.specs.Spaces.{spaces_before}
use Rattle.line_state.specs.declared.gap.Gap.{Gap}
use Rattle.line_state.specs.declared.gap.GapRules.{GapRules}
use Rattle.line_state.specs.Layout.{Layout, as_decided, keeps_rules_at, cost_of, gap_cost, excess_at, excess, is_some_decision, spot_of, start_of, broken_start}
use Rattle.line_state.specs.Line.{Line, gap_at}
use Rattle.line_state.proofs.Steps.{IsPlacing, IsGap, is_gap}
use Rattle.searched_line.specs.Ahead.{no_stretch, can_stay, stretch_with, stretch_over, stretch_of, stretch_ahead, excess_ahead, least_ahead}
use Rattle.searched_line.specs.declared.ahead.Stretch.{Stretch}
use Rattle.searched_line.proofs.AheadSums.{excess_adds, stay_costs, IsStaying, staying}

-- what an empty stretch adds
pub none_ahead : (line : Line) (s : Layout) → stretch_ahead line s ≡ no_stretch → least_ahead line s ≡ 0
none_ahead line s e =
    let none : excess_ahead line s ≡ 0 = omega (arith, ap (λ (x : Stretch). x.width) e) in
    let product : line.style.penalty_excess_character * excess_ahead line s ≡ line.style.penalty_excess_character * 0 = ap (λ (x : ℕ). line.style.penalty_excess_character * x) none in
    omega (arith, product)

abbrev pub rules_of : Style → Gap → GapRules
rules_of style gap = record { rule = gap_rule style gap.left gap.right; spaces = spaces_before style gap.left gap.right }

-- the stretch ahead begins with the next token
pub next_stretch : (line : Line) (s : Layout) (gap : Gap) (n : ℕ) → gap_at line s.index ≡ Some gap → length line.tokens - s.index ≡ suc n → s.index < length line.tokens → stretch_ahead line s ≡ stretch_with (rules_of line.style gap) gap.right gap.fixed (stretch_of line n)
next_stretch line s gap n at left within =
    let here : length line.tokens - suc n ≡ s.index = omega (arith, left, within) in
    ap (λ (m : ℕ). stretch_of line m) left
    ∙ ap (λ (i : ℕ). stretch_over line.style (gap_at line i) (stretch_of line n)) here
    ∙ ap (λ (o : Option Gap). stretch_over line.style o (stretch_of line n)) at

true_false : true ≡ false → ⊥
true_false e = cc

false_true : false ≡ true → ⊥
false_true e = cc

some_none : {A : Type 0} (x : A) → Some x ≡ None → ⊥
some_none x e = cc

-- a break that is left to choice may be
allowed_can : (first : Bool) (fixed : Option Fixed) (must can brk keeps : Bool) → first ≡ false → fixed ≡ None → must ≡ false → brk ≡ true → (if first then brk else as_decided fixed brk (if must then brk else (if can then keeps else not brk))) ≡ true → can ≡ true
allowed_can true fixed must can brk keeps ef en em eb h = absurd (true_false ef)
allowed_can false (Some x) must can brk keeps ef en em eb h = absurd (some_none x en)
allowed_can false None true can brk keeps ef en em eb h = absurd (true_false em)
allowed_can false None false can false keeps ef en em eb h = absurd (false_true eb)
allowed_can false None false true true keeps ef en em eb h = refl
allowed_can false None false false true keeps ef en em eb h = h

-- .. and costs what its gap does
break_costs : (first : Bool) (fixed : Option Fixed) (must can brk : Bool) (cost more : ℕ) → first ≡ false → fixed ≡ None → must ≡ false → brk ≡ true → can ≡ true →
    cost ≤ (if is_some_decision fixed then 0 else (if (not first && not (is_some_decision fixed) && can && not must) && brk then cost else 0) + more)
break_costs true fixed must can brk cost more ef en em eb ec = absurd (true_false ef)
break_costs false (Some x) must can brk cost more ef en em eb ec = absurd (some_none x en)
break_costs false None true can brk cost more ef en em eb ec = absurd (true_false em)
break_costs false None false can false cost more ef en em eb ec = absurd (false_true eb)
break_costs false None false false true cost more ef en em eb ec = absurd (false_true ec)
break_costs false None false true true cost more ef en em eb ec = omega arith

least_can : (can : Bool) (cost next : ℕ) → can ≡ true → (if can then min cost next else next) ≤ cost
least_can true cost next e = omega arith
least_can false cost next e = absurd (false_true e)

least_next : (can : Bool) (cost next : ℕ) → (if can then min cost next else next) ≤ next
least_next true cost next = omega arith
least_next false cost next = omega arith

module _ (line : Line) (s : Layout) (b : Bool) (t : Layout) (k : ℕ) (p : IsPlacing line s b t k) where
  abbrev style : Style
  style = line.style

  abbrev gap : Gap
  gap = p.gap

  abbrev rule : GapRule
  rule = gap_rule style gap.left gap.right

  abbrev blanks : ℕ
  blanks = spaces_before style gap.left gap.right

  abbrev next : Stretch
  next = stretch_ahead line t

  g : IsGap line s.index gap
  g = is_gap line s.index gap p.at

  index : t.index ≡ s.index + 1
  index = sym (ap (λ (l : Layout). l.index) p.layout)

  begins : stretch_ahead line s ≡ stretch_with (rules_of style gap) gap.right gap.fixed next
  begins =
      let left : length line.tokens - s.index ≡ suc (length line.tokens - t.index) = omega (arith, g.within, index) in
      next_stretch line s gap (length line.tokens - t.index) p.at left g.within

  module _ (stays : can_stay rule gap.right gap.fixed ≡ true) where
    q : IsStaying gap.fixed rule.must (is_trailing gap.right.role) (nat_lt 1 gap.right.rows) (gap.right.first_width == gap.right.last_width)
    q = staying gap.fixed rule.must (is_trailing gap.right.role) (nat_lt 1 gap.right.rows) (gap.right.first_width == gap.right.last_width) stays

    longer : stretch_ahead line s ≡ record { width = columns (columns blanks gap.right.first_width) next.width; least = if rule.can then min rule.cost next.least else next.least }
    longer = begins ∙ ap (λ (c : Bool). if c then (record { width = columns (columns blanks gap.right.first_width) next.width; least = if rule.can then min rule.cost next.least else next.least }) else no_stretch) stays

    same_width : gap.right.first_width ≡ gap.right.last_width
    same_width = grind (arith, nat_tests, q.even)

    module _ (breaks : b ≡ true) where
      can : rule.can ≡ true
      can = allowed_can gap.first gap.fixed rule.must rule.can b (keeps_rules_at style (spot_of s gap) gap b) g.first q.free q.must_not breaks p.allowed

      break_falls : least_ahead line s ≤ k + least_ahead line t
      break_falls =
          let costs : rule.cost ≤ cost_of style s gap b = break_costs gap.first gap.fixed rule.must rule.can b rule.cost (style.penalty_excess_character * excess_at style (spot_of s gap) gap b) g.first q.free q.must_not breaks can in
          let least : (stretch_ahead line s).least ≡ (if rule.can then min rule.cost next.least else next.least) = ap (λ (x : Stretch). x.least) longer in
          omega (arith, costs, p.cost, least, least_can rule.can rule.cost next.least can)

    module _ (holds : b ≡ false) where
      start : start_of style s gap b ≡ columns s.column blanks
      start = ap (λ (f : Option Fixed). stored_or f (if b then broken_start (spot_of s gap) gap else columns s.column blanks)) q.free
          ∙ ap (λ (c : Bool). if c then broken_start (spot_of s gap) gap else columns s.column blanks) holds

      column : t.column ≡ columns (columns s.column blanks) gap.right.first_width
      column = sym (ap (λ (l : Layout). l.column) p.layout)
          ∙ ap (λ (c : Bool). if c then gap.right.last_width else columns (start_of style s gap b) gap.right.last_width) q.low
          ∙ ap (λ (x : ℕ). columns x gap.right.last_width) start
          ∙ ap (λ (x : ℕ). columns (columns s.column blanks) x) (sym same_width)

      abbrev added : ℕ
      added = columns (columns s.column blanks) gap.right.first_width - style.column_limit - (s.column - style.column_limit)

      added_here : excess_at style (spot_of s gap) gap b ≡ added
      added_here = ap (λ (c : Bool). if c then 0 else excess style (columns (start_of style s gap b) gap.right.first_width) - excess style (if b then 0 else s.column)) q.costs
          ∙ ap (λ (x : ℕ). excess style (columns x gap.right.first_width) - excess style (if b then 0 else s.column)) start
          ∙ ap (λ (c : Bool). excess style (columns (columns s.column blanks) gap.right.first_width) - excess style (if c then 0 else s.column)) holds

      costs : style.penalty_excess_character * added ≤ k
      costs =
          let whole : cost_of style s gap b ≡ gap_cost style gap b + style.penalty_excess_character * excess_at style (spot_of s gap) gap b = ap (λ (f : Option Fixed). if is_some_decision f then 0 else gap_cost style gap b + style.penalty_excess_character * excess_at style (spot_of s gap) gap b) q.free in
          let product : style.penalty_excess_character * excess_at style (spot_of s gap) gap b ≡ style.penalty_excess_character * added = ap (λ (x : ℕ). style.penalty_excess_character * x) added_here in
          omega (arith, whole, product, p.cost)

      stay_falls : least_ahead line s ≤ k + least_ahead line t
      stay_falls =
          let least : (stretch_ahead line s).least ≡ (if rule.can then min rule.cost next.least else next.least) = ap (λ (x : Stretch). x.least) longer in
          let before : excess_ahead line s ≡ columns s.column (columns (columns blanks gap.right.first_width) next.width) - max s.column style.column_limit = ap (λ (x : Stretch). columns s.column x.width - max s.column style.column_limit) longer in
          let behind : excess_ahead line t ≡ columns (columns (columns s.column blanks) gap.right.first_width) next.width - max (columns (columns s.column blanks) gap.right.first_width) style.column_limit = ap (λ (c : ℕ). columns c next.width - max c style.column_limit) column in
          let sum : excess_ahead line s ≤ added + excess_ahead line t = omega (arith, before, behind, excess_adds style.column_limit s.column blanks gap.right.first_width next.width) in
          let less : (stretch_ahead line s).least ≤ next.least = omega (arith, least, least_next rule.can rule.cost next.least) in
          stay_costs style.penalty_excess_character (stretch_ahead line s).least next.least (excess_ahead line s) added (excess_ahead line t) k less sum costs

  -- what is known to come falls by no more than the step costs
  pub falls : least_ahead line s ≤ k + least_ahead line t
  falls = by_stay (can_stay rule gap.right gap.fixed) refl
    where
      by_choice : can_stay rule gap.right gap.fixed ≡ true → (c : Bool) → b ≡ c → least_ahead line s ≤ k + least_ahead line t
      by_choice stays true e = break_falls stays e
      by_choice stays false e = stay_falls stays e

      by_stay : (c : Bool) → can_stay rule gap.right gap.fixed ≡ c → least_ahead line s ≤ k + least_ahead line t
      by_stay true e = by_choice e b refl
      by_stay false e =
          let none : stretch_ahead line s ≡ no_stretch = begins ∙ ap (λ (c : Bool). if c then (record { width = columns (columns blanks gap.right.first_width) next.width; least = if rule.can then min rule.cost next.least else next.least }) else no_stretch) e in
          omega (arith, none_ahead line s none)
