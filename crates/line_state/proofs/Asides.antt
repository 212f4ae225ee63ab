-- Tokens that stay aside.
use Rattle.std.proofs.Common.{◌≡◌, ℕ, ◌+◌, ◌-◌, ◌*◌, ◌<◌, ◌==◌, Bool, false, if◌then◌else◌, None, List, refl, arith, ap, sym, ◌∙◌, subst}
use Rattle.std.proofs.lemmas.Bool.Decides.{nat_tests}
use Rattle.line_tokens.specs.Columns.{columns, end_of}
use Rattle.line_tokens.specs.declared.LineTok.{LineTok}
use Rattle.layout_tables.specs.Spaces.{spaces_before}
use Rattle.style_table.specs.declared.style.Style.{Style}
use Rattle.line_state.specs.declared.gap.Gap.{Gap}
use Rattle.line_state.specs.Layout.{Layout, gap_before, open_frames, layout_after, cost_of}
use Rattle.line_state.specs.Beside.{IsAside}
use Rattle.frame_store.specs.declared.node.NodeState.{NodeState}
use Rattle.frame_store.specs.Store.{FrameList, list_at}
use Rattle.line_state.specs.StoredStates.{layout_in}
use Rattle.line_state.proofs.Staying.{StepsBeside, steps_here, beside_in}

isnt_zero : (i : ℕ) → 0 < i → (i == 0) ≡ false
isnt_zero i some = grind (arith, nat_tests)

two_columns : (column spaces width : ℕ) → columns (columns column spaces) width ≡ columns column (spaces + width)
two_columns column spaces width = omega arith

module _ (style : Style) (layout : Layout) (left right : LineTok) (width : ℕ) (some : 0 < layout.index) (aside : IsAside style left right None width) where
  abbrev gap : Gap
  gap = gap_before layout left right None

  pub steps_aside : StepsBeside style layout gap false
  steps_aside = subst (λ (b : Bool). StepsBeside style layout (record { left = left; right = right; fixed = None; first = b }) false) (sym (isnt_zero layout.index some))
      (steps_here style layout left right aside.may aside.left_opens aside.right_opens aside.unbound)

  -- the column behind it
  pub ends_aside : end_of right (columns layout.column (spaces_before style left right)) ≡ columns layout.column width
  ends_aside = ap (λ (b : Bool). if b then right.last_width else columns (columns layout.column (spaces_before style left right)) right.last_width) aside.low
      ∙ ap (λ (w : ℕ). columns (columns layout.column (spaces_before style left right)) w) (sym aside.even)
      ∙ two_columns layout.column (spaces_before style left right) right.first_width
      ∙ ap (λ (w : ℕ). columns layout.column w) (sym aside.wide)

  -- what it costs
  pub costs_aside : cost_of style layout gap false ≡ style.penalty_excess_character * (columns layout.column width - style.column_limit - (layout.column - style.column_limit))
  costs_aside = steps_aside.cost
      ∙ ap (λ (b : Bool). style.penalty_excess_character * (if b then 0 else columns (columns layout.column (spaces_before style left right)) right.first_width - style.column_limit - (layout.column - style.column_limit))) aside.costs
      ∙ ap (λ (w : ℕ). style.penalty_excess_character * (w - style.column_limit - (layout.column - style.column_limit))) (two_columns layout.column (spaces_before style left right) right.first_width ∙ ap (λ (w : ℕ). columns layout.column w) (sym aside.wide))

-- its layout, in a store
pub aside_after : (style : Style) (lists : List FrameList) (state next : NodeState) (left right : LineTok) (width : ℕ) → 0 < state.index → IsAside style left right None width → next.index ≡ state.index + 1 → (low : ℕ) → next.node ≡ low →
    list_at lists low ≡ record { base = (list_at lists state.node).base; frames = open_frames (layout_in lists state) (gap_before (layout_in lists state) left right None) } → next.column ≡ columns state.column width →
    layout_in lists next ≡ layout_after style (layout_in lists state) (gap_before (layout_in lists state) left right None) false
aside_after style lists state next left right width some aside index low node list column =
    beside_in style lists state next (gap_before (layout_in lists state) left right None) false (steps_aside style (layout_in lists state) left right width some aside) (spaces_before style left right) refl index low node list
    (column ∙ sym (ends_aside style (layout_in lists state) left right width some aside))
