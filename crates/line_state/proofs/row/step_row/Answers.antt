use Rattle.std.proofs.Common.{◌≡◌, ℕ, ◌+◌, ◌-◌, ◌*◌, ◌∙◌, take, ap, sym, refl}
use Rattle.frame_store.specs.Frames.{topmost}
use Rattle.frame_store.specs.declared.frames.Frame.{Frame}
use Rattle.frame_store.specs.Store.{FrameList, list_at}
use Rattle.line_tokens.specs.Columns.{columns}
use Rattle.line_state.specs.StoredStates.{layout_in}
use Rattle.line_state.proofs.Rows.{steps_row, row_after, costs_row}
use Rattle.line_state.proofs.row.step_row.Goals as goal

pub returns-clause-allowed : goal.returns-clause-allowed
returns-clause-allowed c = (steps_row c.args.style.now c.args.left.now c.args.right.now c.args.width c.requires.row (layout_in c.args.store.now c.args.state.now) c.requires.some).allowed

pub returns-clause-layout : goal.returns-clause-layout
returns-clause-layout c =
    let list = list_at c.args.store.now c.args.state.now.node in
    let kept : list_at c.args.store.now c.lowest-node.result ≡ record { base = list.base; frames = take c.args.right.now.depth list.frames } = c.lowest-node.ensures.list ∙ ap {B = FrameList} (λ (n : ℕ). record { base = list.base; frames = take n list.frames }) c.requires.depth in
    let column : c.saturating_add-column.result ≡ columns (topmost (list_at c.args.store.now c.lowest-node.result).base (list_at c.args.store.now c.lowest-node.result).frames).indent c.args.width =
    c.saturating_add-column.ensures ∙ ap (λ (f : Frame). columns f.indent c.args.width) c.topmost.ensures in
    row_after c.args.style.now c.args.store.now c.args.state.now (record { cost = c.args.state.now.cost + c.from.result; index = c.args.state.now.index + 1; column = c.saturating_add-column.result; node = c.lowest-node.result }) c.args.left.now c.args.right.now c.args.width
    c.requires.some c.requires.row refl c.lowest-node.result refl kept column

pub returns-clause-cost : goal.returns-clause-cost
returns-clause-cost c =
    let style = c.args.style.now in
    let layout = layout_in c.args.store.now c.args.state.now in
    let list = list_at c.args.store.now c.args.state.now.node in
    let kept : list_at c.args.store.now c.lowest-node.result ≡ record { base = list.base; frames = take c.args.right.now.depth list.frames } = c.lowest-node.ensures.list ∙ ap {B = FrameList} (λ (n : ℕ). record { base = list.base; frames = take n list.frames }) c.requires.depth in
    let column : c.saturating_add-column.result ≡ columns (topmost (list_at c.args.store.now c.lowest-node.result).base (list_at c.args.store.now c.lowest-node.result).frames).indent c.args.width =
    c.saturating_add-column.ensures ∙ ap (λ (f : Frame). columns f.indent c.args.width) c.topmost.ensures in
    let past : c.saturating_sub-past.result ≡ columns (topmost (list_at c.args.store.now c.lowest-node.result).base (list_at c.args.store.now c.lowest-node.result).frames).indent c.args.width - style.column_limit =
    c.saturating_sub-past.ensures ∙ ap (λ (n : ℕ). n - style.column_limit) column in
    ap (λ (n : ℕ). c.args.state.now.cost + n) (c.from.ensures
    ∙ ap (λ (n : ℕ). c.args.cost + n) (c.excess_cost.ensures.value ∙ ap (λ (n : ℕ). style.penalty_excess_character * n) past)
    ∙ ap (λ (n : ℕ). n + style.penalty_excess_character * (columns (topmost (list_at c.args.store.now c.lowest-node.result).base (list_at c.args.store.now c.lowest-node.result).frames).indent c.args.width - style.column_limit)) c.requires.cost
    ∙ sym (costs_row style c.args.left.now c.args.right.now c.args.width c.requires.row layout c.requires.some (list_at c.args.store.now c.lowest-node.result) kept))
