use Rattle.std.proofs.Common.{◌≡◌, ℕ, true, false, ◌+◌, ◌*◌, ◌∙◌, ap, sym, rules}
use Rattle.line_state.specs.declared.spot.Spot.{Spot}
use Rattle.layout_tables.specs.declared.penalties.GapRule.{GapRule}
use Rattle.frame_store.specs.Store.{FrameList}
use Rattle.line_state.specs.Beside.{excess_below, row_start}
use Rattle.line_state.specs.Layout.{gap_before, spot_of, allows_at, open_frames}
use Rattle.line_state.specs.StoredStates.{layout_in}
use Rattle.line_state.proofs.Staying.{steps_below, below_in}
use Rattle.line_state.proofs.Tests.{on_true_at}
use Rattle.line_state.proofs.stepping.try_step_by.Goals as goal

pub returns-then-is_refused-clause-none : goal.returns-then-is_refused-clause-none
returns-then-is_refused-clause-none c =
    let layout = layout_in c.args.store.now c.args.state.now in
    on_true_at _ _ c.if-is_refused.true c.is_refused.ensures (spot_of layout (gap_before layout c.args.left.now c.args.right.now c.args.fixed))

pub returns-then-is_below-clause-some : goal.returns-then-is_below-clause-some
returns-then-is_below-clause-some c = (steps_below c.args.style.now (layout_in c.args.store.now c.args.state.now) _ _ _ c.requires.rules.rule (on_true_at _ _ c.if-is_below.true c.is_below.ensures)).allowed

pub returns-then-is_below-clause-layout : goal.returns-then-is_below-clause-layout
returns-then-is_below-clause-layout c =
    let layout = layout_in c.args.store.now c.args.state.now in
    let steps = steps_below c.args.style.now layout (gap_before layout c.args.left.now c.args.right.now c.args.fixed) _ _ c.requires.rules.rule (on_true_at _ _ c.if-is_below.true c.is_below.ensures) in
    below_in c.args.style.now c.args.store.now c.args.state.now c.step_below-next.result _ _ steps c.step_below-next.ensures.index _ c.step_below-next.ensures.node c.lowest-left_open.ensures.list c.step_below-next.ensures.column

pub returns-then-is_below-clause-cost : goal.returns-then-is_below-clause-cost
returns-then-is_below-clause-cost c =
    let style = c.args.style.now in
    let layout = layout_in c.args.store.now c.args.state.now in
    let gap = gap_before layout c.args.left.now c.args.right.now c.args.fixed in
    let steps = steps_below style layout gap _ _ c.requires.rules.rule (on_true_at _ _ c.if-is_below.true c.is_below.ensures) in
    let list : FrameList = record { base = layout.base; frames = open_frames layout gap } in
    c.step_below-next.ensures.cost
    ∙ ap (λ (l : FrameList). c.args.state.now.cost + (c.args.rules.now.rule.cost + style.penalty_excess_character * excess_below style (row_start c.args.right.now.role l) c.args.right.now)) c.lowest-left_open.ensures.list
    ∙ ap (λ (rule : GapRule). c.args.state.now.cost + (rule.cost + style.penalty_excess_character * excess_below style (row_start c.args.right.now.role list) c.args.right.now)) c.requires.rules.rule
    ∙ ap (λ (cost : ℕ). c.args.state.now.cost + cost) (sym steps.cost)

pub returns-then-not-allows-clause-none : goal.returns-then-not-allows-clause-none
returns-then-not-allows-clause-none c =
    let layout = layout_in c.args.store.now c.args.state.now in
    let no : c.allows.result ≡ false = search rules in
    ap (λ (spot : Spot). allows_at c.args.style.now spot (gap_before layout c.args.left.now c.args.right.now c.args.fixed) c.args.brk) (sym c.spot_in-spot.ensures) ∙ sym c.allows.ensures ∙ no

pub returns-clause-some : goal.returns-clause-some
returns-clause-some c =
    let layout = layout_in c.args.store.now c.args.state.now in
    let yes : c.allows.result ≡ true = search rules in
    ap (λ (spot : Spot). allows_at c.args.style.now spot (gap_before layout c.args.left.now c.args.right.now c.args.fixed) c.args.brk) (sym c.spot_in-spot.ensures) ∙ sym c.allows.ensures ∙ yes
