use Rattle.std.proofs.Common.{◌≡◌, ℕ, ◌+◌, ◌-◌, ◌*◌, ◌∙◌, take, ap, sym, refl}
use Rattle.frame_store.specs.Store.{FrameList, list_at}
use Rattle.line_tokens.specs.Columns.{columns}
use Rattle.line_state.specs.StoredStates.{layout_in}
use Rattle.line_state.proofs.Asides.{steps_aside, costs_aside, aside_after}
use Rattle.line_state.proofs.aside.step_aside.Goals as goal

pub returns-clause-allowed : goal.returns-clause-allowed
returns-clause-allowed c = (steps_aside c.args.style.now (layout_in c.args.store.now c.args.state.now) c.args.left.now c.args.right.now c.args.width c.requires.some c.requires.aside).allowed

pub returns-clause-layout : goal.returns-clause-layout
returns-clause-layout c =
    let list = list_at c.args.store.now c.args.state.now.node in
    let kept : list_at c.args.store.now c.lowest.result ≡ record { base = list.base; frames = take c.args.right.now.depth list.frames } = c.lowest.ensures.list ∙ ap {B = FrameList} (λ (n : ℕ). record { base = list.base; frames = take n list.frames }) c.requires.depth in
    aside_after c.args.style.now c.args.store.now c.args.state.now (record { cost = c.args.state.now.cost + c.from.result; index = c.args.state.now.index + 1; column = c.saturating_add-column.result; node = c.lowest.result }) c.args.left.now c.args.right.now c.args.width
    c.requires.some c.requires.aside refl c.lowest.result refl kept c.saturating_add-column.ensures

pub returns-clause-cost : goal.returns-clause-cost
returns-clause-cost c =
    let style = c.args.style.now in
    let layout = layout_in c.args.store.now c.args.state.now in
    let past : c.saturating_sub-past.result ≡ columns layout.column c.args.width - style.column_limit - (layout.column - style.column_limit) =
    c.saturating_sub-past.ensures ∙ ap (λ (n : ℕ). n - c.saturating_sub-before.result) c.saturating_sub.ensures
    ∙ ap (λ (n : ℕ). c.saturating_add-column.result - style.column_limit - n) c.saturating_sub-before.ensures
    ∙ ap (λ (n : ℕ). n - style.column_limit - (layout.column - style.column_limit)) c.saturating_add-column.ensures in
    ap (λ (n : ℕ). c.args.state.now.cost + n) (c.from.ensures ∙ c.excess_cost.ensures.value ∙ ap (λ (n : ℕ). style.penalty_excess_character * n) past ∙ sym (costs_aside style layout c.args.left.now c.args.right.now c.args.width c.requires.some c.requires.aside))
