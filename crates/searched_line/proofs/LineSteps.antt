-- A step of the code is a step of the line.
use Rattle.std.proofs.Common.{◌≡◌, ℕ, ◌+◌, ◌-◌, ◌*◌, ◌<◌, ◌≤◌, Bool, true, false, ◌==◌, cond, Option, Some, None}
use Rattle.std.proofs.Common.{IfNone, IfSome, OnSome, List, refl, arith, ap, sym, ◌∙◌, subst, suc, zero, slice_get}
use Rattle.std.proofs.lemmas.Bool.Decides.{nat_tests}
use Rattle.line_tokens.specs.declared.LineTok.{LineTok}
use Rattle.line_tokens.specs.declared.Fixed.{Fixed}
use Rattle.style_table.specs.declared.style.Style.{Style}
use Rattle.line_state.specs.declared.gap.Gap.{Gap}
use Rattle.line_state.specs.declared.state.State.{State}
use Rattle.line_state.specs.Layout.{Layout, layout_of, gap_before, is_allowed, layout_after, cost_of, start_of}
use Rattle.line_state.specs.Line.{Line, gap_at, gap_between, decision_at, step_over, Step}
use Rattle.frame_store.specs.declared.node.NodeState.{NodeState}
use Rattle.frame_store.specs.Store.{FrameList}
use Rattle.line_state.specs.StoredStates.{layout_in, state_in}
use Rattle.line_state.specs.Beside.{HasToStay}
use Rattle.std.specs.Bool.{OnTrue, OnFalse}
use Rattle.searched_line.specs.Successors.{IsNextState, IsSuccessor, LeadsOn, LeadsTo, LeadsNowhere, states_in}

isnt_zero : (i : ℕ) → 0 < i → (i == 0) ≡ false
isnt_zero i some = grind (arith, nat_tests)

none_some : {A : Type 0} (x : A) → None ≡ Some x → ⊥
none_some x e = cc

-- the gap before the next token, as the code reads it
module _ (line : Line) (layout : Layout) (left right : LineTok) (fixed : Option Fixed) (inside : 0 < layout.index) (at_left : slice_get line.tokens (layout.index - 1) ≡ Some left) (at_right : slice_get line.tokens layout.index ≡ Some right)
    (decided : fixed ≡ decision_at line layout.index) where
  pub gap_is : gap_at line layout.index ≡ Some (gap_before layout left right fixed)
  gap_is = by_index layout.index refl
    where
      by_index : (i : ℕ) → layout.index ≡ i → gap_at line layout.index ≡ Some (gap_before layout left right fixed)
      by_index zero e = absurd (omega (arith, inside))
      by_index (suc i) e =
          let before : layout.index - 1 ≡ i = omega (arith, e) in
          let one : slice_get line.tokens i ≡ Some left = ap (λ (j : ℕ). slice_get line.tokens j) (sym before) ∙ at_left in
          let other : slice_get line.tokens (suc i) ≡ Some right = ap (λ (j : ℕ). slice_get line.tokens j) (sym e) ∙ at_right in
          let choice : decision_at line (suc i) ≡ fixed = ap (λ (j : ℕ). decision_at line j) (sym e) ∙ sym decided in
          let first : (layout.index == 0) ≡ false = isnt_zero layout.index inside in
          ap (λ (j : ℕ). gap_at line j) e
          ∙ ap (λ (o : Option LineTok). gap_between o (slice_get line.tokens (suc i)) (decision_at line (suc i)) false) one
          ∙ ap (λ (o : Option LineTok). gap_between (Some left) o (decision_at line (suc i)) false) other
          ∙ ap (λ (f : Option Fixed). gap_between (Some left) (Some right) f false) choice
          ∙ ap (λ (b : Bool). gap_between (Some left) (Some right) fixed b) (sym first)

  -- a choice that isn't admissible makes no step
  pub no_step : (style : Style) (brk allowed : Bool) → style ≡ line.style → allowed ≡ is_allowed style layout (gap_before layout left right fixed) brk → allowed ≡ false → (t : Layout) (k : ℕ) → Step line layout brk t k → ⊥
  no_step style brk allowed same is isnt t k go =
      let no : is_allowed line.style layout (gap_before layout left right fixed) brk ≡ false = ap (λ (s : Style). is_allowed s layout (gap_before layout left right fixed) brk) (sym same) ∙ sym is ∙ isnt in
      let none : ◌≡◌ {A = Option (Layout × ℕ)} (step_over line layout brk (Some (gap_before layout left right fixed))) None =
      ap (λ (b : Bool). cond {A = Option (Layout × ℕ)} b (Some (layout_after line.style layout (gap_before layout left right fixed) brk, cost_of line.style layout (gap_before layout left right fixed) brk)) None) no in
      let clash : ◌≡◌ {A = Option (Layout × ℕ)} None (Some (t, k)) = sym none ∙ sym (ap (λ (o : Option Gap). step_over line layout brk o) gap_is) ∙ go in
      none_some (t, k) clash

  -- an admissible one makes the step of the code
  pub one_step : (style : Style) (brk allowed : Bool) (before : ℕ) (next : State) → style ≡ line.style → allowed ≡ is_allowed style layout (gap_before layout left right fixed) brk → allowed ≡ true →
      layout_of next ≡ layout_after style layout (gap_before layout left right fixed) brk → next.cost ≡ before + cost_of style layout (gap_before layout left right fixed) brk → next.cost ≤ next.index * 18446744073709551615 → IsNextState line layout before brk next
  one_step style brk allowed before next same is does layouts costs bound =
      let yes : is_allowed line.style layout (gap_before layout left right fixed) brk ≡ true = ap (λ (s : Style). is_allowed s layout (gap_before layout left right fixed) brk) (sym same) ∙ sym is ∙ does in
      let some : step_over line layout brk (Some (gap_before layout left right fixed)) ≡ Some (layout_after line.style layout (gap_before layout left right fixed) brk, cost_of line.style layout (gap_before layout left right fixed) brk) =
      ap (λ (b : Bool). cond {A = Option (Layout × ℕ)} b (Some (layout_after line.style layout (gap_before layout left right fixed) brk, cost_of line.style layout (gap_before layout left right fixed) brk)) None) yes in
      let there : layout_after line.style layout (gap_before layout left right fixed) brk ≡ layout_of next = ap (λ (s : Style). layout_after s layout (gap_before layout left right fixed) brk) (sym same) ∙ sym layouts in
      let go : Step line layout brk (layout_after line.style layout (gap_before layout left right fixed) brk) (cost_of line.style layout (gap_before layout left right fixed) brk) = ap (λ (o : Option Gap). step_over line layout brk o) gap_is ∙ some in
      record {
        added = cost_of line.style layout (gap_before layout left right fixed) brk;
        step = subst (λ (l : Layout). Step line layout brk l (cost_of line.style layout (gap_before layout left right fixed) brk)) there go;
        cost = costs ∙ ap (λ (s : Style). before + cost_of s layout (gap_before layout left right fixed) brk) same;
        cheap = bound;
      }

  -- a test tells whether the choice is admissible
  pub leads_on : (style : Style) (brk result : Bool) → style ≡ line.style → result ≡ is_allowed style layout (gap_before layout left right fixed) brk → OnTrue result (LeadsOn line layout brk)
  leads_on style brk false same is = tt
  leads_on style brk true same is =
      let yes : is_allowed line.style layout (gap_before layout left right fixed) brk ≡ true = ap (λ (s : Style). is_allowed s layout (gap_before layout left right fixed) brk) (sym same) ∙ sym is in (
        layout_after line.style layout (gap_before layout left right fixed) brk,
        cost_of line.style layout (gap_before layout left right fixed) brk,
        ap (λ (o : Option Gap). step_over line layout brk o) gap_is
            ∙ ap (λ (b : Bool). cond {A = Option (Layout × ℕ)} b (Some (layout_after line.style layout (gap_before layout left right fixed) brk, cost_of line.style layout (gap_before layout left right fixed) brk)) None) yes,
      )

  pub leads_nowhere : (style : Style) (brk result : Bool) → style ≡ line.style → result ≡ is_allowed style layout (gap_before layout left right fixed) brk → OnFalse result (LeadsNowhere line layout brk)
  leads_nowhere style brk true same is = tt
  leads_nowhere style brk false same is = no_step style brk false same is refl

  pub went_on : (style : Style) (brk : Bool) (next : Layout) → style ≡ line.style → LeadsOn line layout brk → next ≡ layout_after style layout (gap_before layout left right fixed) brk → LeadsTo line layout brk next
  went_on style brk next same leads is =
      let there = placed_by (is_allowed line.style layout (gap_before layout left right fixed) brk) refl in
      (cost_of line.style layout (gap_before layout left right fixed) brk, subst (λ (l : Layout). Step line layout brk l (cost_of line.style layout (gap_before layout left right fixed) brk)) (ap (λ (s : Style). layout_after s layout (gap_before layout left right fixed) brk) (sym same) ∙ sym is) there)
    where
      placed_by : (b : Bool) → b ≡ is_allowed line.style layout (gap_before layout left right fixed) brk → Step line layout brk (layout_after line.style layout (gap_before layout left right fixed) brk) (cost_of line.style layout (gap_before layout left right fixed) brk)
      placed_by true does = ap (λ (o : Option Gap). step_over line layout brk o) gap_is
          ∙ ap (λ (b : Bool). cond {A = Option (Layout × ℕ)} b (Some (layout_after line.style layout (gap_before layout left right fixed) brk, cost_of line.style layout (gap_before layout left right fixed) brk)) None) (sym does)
      placed_by false isnt = absurd (no_step line.style brk false refl isnt refl leads.0 leads.1 leads.2)

  -- an admissible choice leads where the code goes
  pub went : (style : Style) (brk : Bool) (before : ℕ) (next : State) → style ≡ line.style → LeadsOn line layout brk → layout_of next ≡ layout_after style layout (gap_before layout left right fixed) brk → next.cost ≡ before + cost_of style layout (gap_before layout left right fixed) brk → next.cost ≤ next.index * 18446744073709551615 →
      IsNextState line layout before brk next
  went style brk before next same leads layouts costs bound = by_allowed (is_allowed style layout (gap_before layout left right fixed) brk) refl
    where
      by_allowed : (b : Bool) → b ≡ is_allowed style layout (gap_before layout left right fixed) brk → IsNextState line layout before brk next
      by_allowed true is = one_step style brk true before next same is refl layouts costs bound
      by_allowed false is = absurd (no_step style brk false same is refl leads.0 leads.1 leads.2)

  -- what the choice leads to, where it is admissible
  pub tried : (style : Style) (brk : Bool) (state : State) → layout_of state ≡ layout → style ≡ line.style → (lists : List FrameList) (next : Option NodeState) →
      IfNone next (is_allowed style layout (gap_before layout left right fixed) brk ≡ false) → OnSome next (is_allowed style layout (gap_before layout left right fixed) brk ≡ true) → IfSome next (λ n. layout_in lists n ≡ layout_after style layout (gap_before layout left right fixed) brk) →
      IfSome next (λ n. n.cost ≡ state.cost + cost_of style layout (gap_before layout left right fixed) brk) → IfSome next (λ n. n.cost ≤ n.index * 18446744073709551615) → IsSuccessor line state brk (states_in lists next)
  tried style brk state here same lists None none some layouts costs bound =
      subst (λ (l : Layout). (t : Layout) (k : ℕ) → Step line l brk t k → ⊥) (sym here) (no_step style brk (is_allowed style layout (gap_before layout left right fixed) brk) same refl none)
  tried style brk state here same lists (Some n) none some layouts costs bound =
      subst (λ (l : Layout). IsNextState line l state.cost brk (state_in lists n)) (sym here) (one_step style brk (is_allowed style layout (gap_before layout left right fixed) brk) state.cost (state_in lists n) same refl some layouts costs bound)

  -- the token starts where the code says
  pub start_here : (style : Style) (brk : Bool) (start : ℕ) → style ≡ line.style → start ≡ start_of style layout (gap_before layout left right fixed) brk → (gap : Gap) → gap_at line layout.index ≡ Some gap → start ≡ start_of line.style layout gap brk
  start_here style brk start same is gap at =
      let one : gap_before layout left right fixed ≡ gap = some_same (gap_before layout left right fixed) gap (sym gap_is ∙ at) in
      is ∙ (ap (λ (s : Style). start_of s layout (gap_before layout left right fixed) brk) same ∙ ap (λ (g : Gap). start_of line.style layout g brk) one)
    where
      some_same : {A : Type 0} (x y : A) → Some x ≡ Some y → x ≡ y
      some_same x y e = cc

-- a break in a gap that has to stay leads nowhere
pub stays : (line : Line) (state : NodeState) (left right : LineTok) → 0 < state.index → slice_get line.tokens (state.index - 1) ≡ Some left → slice_get line.tokens state.index ≡ Some right → (no : Bool) → OnTrue no (HasToStay line.style left right (decision_at line state.index)) →
    OnTrue no ((lists : List FrameList) → LeadsNowhere line (layout_in lists state) true)
stays line state left right inside at_left at_right false told = tt
stays line state left right inside at_left at_right true told = λ lists.
    no_step line (layout_in lists state) left right (decision_at line state.index) inside at_left at_right refl line.style true (is_allowed line.style (layout_in lists state) (gap_before (layout_in lists state) left right (decision_at line state.index)) true) refl refl (told (layout_in lists state) inside)
