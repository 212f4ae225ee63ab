-- Tokens that begin a row inside the topmost frame.
use Rattle.std.proofs.Common.{◌≡◌, ℕ, ◌+◌, ◌-◌, ◌*◌, ◌<◌, ◌==◌, Bool, true, false, if◌then◌else◌, None, List, refl, arith, ap, sym, ◌∙◌}
use Rattle.std.proofs.lemmas.Bool.Decides.{nat_tests}
use Rattle.line_tokens.specs.Columns.{columns, end_of}
use Rattle.line_tokens.specs.Roles.{is_list_close}
use Rattle.line_tokens.specs.declared.LineTok.{LineTok}
use Rattle.layout_tables.specs.Breaks.{gap_rule}
use Rattle.style_table.specs.declared.style.Style.{Style}
use Rattle.line_state.specs.Layout.{Layout, gap_before, open_frames, layout_after, cost_of}
use Rattle.line_state.specs.Beside.{IsRow, row_start}
use Rattle.frame_store.specs.Frames.{topmost, below_topmost}
use Rattle.frame_store.specs.declared.node.NodeState.{NodeState}
use Rattle.frame_store.specs.Store.{FrameList, list_at}
use Rattle.line_state.specs.StoredStates.{layout_in}
use Rattle.line_state.proofs.Staying.{StepsBelow, steps_below, below_in}

isnt_zero : (i : ℕ) → 0 < i → (i == 0) ≡ false
isnt_zero i some = grind (arith, nat_tests)

module _ (style : Style) (left right : LineTok) (width : ℕ) (row : IsRow style left right None width) where
  pub steps_row : (layout : Layout) → 0 < layout.index → StepsBelow style layout (gap_before layout left right None) true
  steps_row layout some = steps_below style layout (gap_before layout left right None) (gap_rule style left right) true refl (record {
    breaks = refl;
    inside = isnt_zero layout.index some;
    free = refl;
    may = row.may;
    can = row.can;
    left = row.left_opens;
    right = row.right_opens;
    unbound = row.unbound;
    released = row.released;
  })

  -- where it starts
  pub starts_row : (list : FrameList) → row_start right.role list ≡ (topmost list.base list.frames).indent
  starts_row list =
      ap (λ (b : Bool). if b then list.base.base else (if is_list_close right.role then (below_topmost list.base list.frames).base else (topmost list.base list.frames).indent)) row.inside
      ∙ ap (λ (b : Bool). if b then (below_topmost list.base list.frames).base else (topmost list.base list.frames).indent) row.inner

  -- the column behind it
  pub ends_row : (start : ℕ) → end_of right start ≡ columns start width
  ends_row start = ap (λ (b : Bool). if b then right.last_width else columns start right.last_width) row.low
      ∙ ap (λ (w : ℕ). columns start w) (sym row.even)
      ∙ ap (λ (w : ℕ). columns start w) (sym row.wide)

  -- what it costs
  pub costs_row : (layout : Layout) → 0 < layout.index → (list : FrameList) → list ≡ record { base = layout.base; frames = open_frames layout (gap_before layout left right None) } →
      cost_of style layout (gap_before layout left right None) true ≡ (gap_rule style left right).cost + style.penalty_excess_character * (columns (topmost list.base list.frames).indent width - style.column_limit)
  costs_row layout some list is =
      (steps_row layout some).cost
      ∙ ap (λ (b : Bool). (gap_rule style left right).cost + style.penalty_excess_character * (if b then 0 else columns (row_start right.role (record { base = layout.base; frames = open_frames layout (gap_before layout left right None) })) right.first_width - style.column_limit)) row.costs
      ∙ ap (λ (l : FrameList). (gap_rule style left right).cost + style.penalty_excess_character * (columns (row_start right.role l) right.first_width - style.column_limit)) (sym is)
      ∙ ap (λ (n : ℕ). (gap_rule style left right).cost + style.penalty_excess_character * (columns n right.first_width - style.column_limit)) (starts_row list)
      ∙ ap (λ (w : ℕ). (gap_rule style left right).cost + style.penalty_excess_character * (columns (topmost list.base list.frames).indent w - style.column_limit)) (sym row.wide)

-- its layout, in a store
pub row_after : (style : Style) (lists : List FrameList) (state next : NodeState) (left right : LineTok) (width : ℕ) → 0 < state.index → IsRow style left right None width → next.index ≡ state.index + 1 → (low : ℕ) → next.node ≡ low →
    list_at lists low ≡ record { base = (list_at lists state.node).base; frames = open_frames (layout_in lists state) (gap_before (layout_in lists state) left right None) } →
    next.column ≡ columns (topmost (list_at lists low).base (list_at lists low).frames).indent width →
    layout_in lists next ≡ layout_after style (layout_in lists state) (gap_before (layout_in lists state) left right None) true
row_after style lists state next left right width some row index low node list column =
    below_in style lists state next (gap_before (layout_in lists state) left right None) true (steps_row style left right width row (layout_in lists state) some) index low node list
    (column ∙ ap (λ (n : ℕ). columns n width) (sym (starts_row style left right width row (list_at lists low))) ∙ sym (ends_row style left right width row (row_start right.role (list_at lists low))))
