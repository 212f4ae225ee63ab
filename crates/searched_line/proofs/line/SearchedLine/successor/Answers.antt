use Rattle.std.proofs.Common.{ap, refl, sym, subst, arith, Bool, true, false, None}
use Rattle.layout_tables.specs.declared.penalties.GapRule.{GapRule}
use Rattle.line_state.specs.Layout.{gap_before, is_allowed}
use Rattle.line_state.specs.StoredStates.{layout_in, state_in}
use Rattle.line_state.specs.Line.{Line}
use Rattle.searched_line.specs.Successors.{IsNextState}
use Rattle.searched_line.proofs.LineSteps.{one_step, tried}
use Rattle.searched_line.proofs.Ruling.{ruled_by, undecided, undecided_row}
use Rattle.searched_line.proofs.line.SearchedLine.successor.Goals as goal

pub try_step_by-requires-clause-rules : goal.try_step_by-requires-clause-rules
try_step_by-requires-clause-rules c =
    ruled_by _ c.args.self.now.style _ _ _ (ap (λ (l : Line). l.style) c.self.view_is) (c.rules_before-rules.ensures _ _ c.token_before-left.ensures c.token-right.ensures)

pub step_aside-next-requires-clause-aside : goal.step_aside-next-requires-clause-aside
step_aside-next-requires-clause-aside c =
    undecided _ c.args.self.now.style _ _ _ _ (ap (λ (l : Line). l.style) c.self.view_is) (c.aside-width.ensures _ _ c.token_before-left.ensures c.token-right.ensures (omega (arith, c.if-width-lt4294967295.true)))

pub returns-then-width-lt4294967295-clause-gives : goal.returns-then-width-lt4294967295-clause-gives
returns-then-width-lt4294967295-clause-gives c =
    let layout = layout_in c.args.store.now c.args.state.now in
    let next = state_in c.args.store.now c.step_aside-next.result in
    let style = c.self.inside.style.now in
    let left = c.token_before-left.result.now in
    let right = c.token-right.result.now in
    let aside = c.aside-width.ensures left right c.token_before-left.ensures c.token-right.ensures (omega (arith, c.if-width-lt4294967295.true)) in
    let stays = one_step c.args.self.now layout left right None c.requires.some c.token_before-left.ensures c.token-right.ensures (sym aside.free) style false (is_allowed style layout (gap_before layout left right None) false) c.args.state.now.cost next (ap (λ (l : Line). l.style) c.self.view_is) refl
    c.step_aside-next.ensures.allowed c.step_aside-next.ensures.layout c.step_aside-next.ensures.cost c.step_aside-next.ensures.bound in
    subst (λ (b : Bool). IsNextState c.args.self.now layout c.args.state.now.cost b next) (sym c.if-not-brk.true) stays

pub step_row-next-requires-clause-row : goal.step_row-next-requires-clause-row
step_row-next-requires-clause-row c =
    undecided_row _ c.args.self.now.style _ _ _ _ (ap (λ (l : Line). l.style) c.self.view_is) (c.row-width.ensures _ _ c.token_before-left.ensures c.token-right.ensures (omega (arith, c.if-width-lt4294967295-2.true)))

pub step_row-next-requires-clause-cost : goal.step_row-next-requires-clause-cost
step_row-next-requires-clause-cost c =
    ap (λ (r : GapRule). r.cost) (ruled_by _ c.args.self.now.style _ _ _ (ap (λ (l : Line). l.style) c.self.view_is) (c.gap.ensures _ _ c.token_before-left.ensures c.token-right.ensures).rules).rule

pub step_row-next-requires-clause-small : goal.step_row-next-requires-clause-small
step_row-next-requires-clause-small c = (c.gap.ensures _ _ c.token_before-left.ensures c.token-right.ensures).rules.small

pub returns-then-width-lt4294967295-2-clause-gives : goal.returns-then-width-lt4294967295-2-clause-gives
returns-then-width-lt4294967295-2-clause-gives c =
    let layout = layout_in c.args.store.now c.args.state.now in
    let next = state_in c.args.store.now c.step_row-next.result in
    let style = c.self.inside.style.now in
    let left = c.token_before-left.result.now in
    let right = c.token-right.result.now in
    let row = c.row-width.ensures left right c.token_before-left.ensures c.token-right.ensures (omega (arith, c.if-width-lt4294967295-2.true)) in
    let breaks = one_step c.args.self.now layout left right None c.requires.some c.token_before-left.ensures c.token-right.ensures (sym row.free) style true (is_allowed style layout (gap_before layout left right None) true) c.args.state.now.cost next (ap (λ (l : Line). l.style) c.self.view_is) refl
    c.step_row-next.ensures.allowed c.step_row-next.ensures.layout c.step_row-next.ensures.cost c.step_row-next.ensures.bound in
    subst (λ (b : Bool). IsNextState c.args.self.now layout c.args.state.now.cost b next) (sym c.if-not-brk.false) breaks

pub returns-clause-gives : goal.returns-clause-gives
returns-clause-gives c =
    tried c.args.self.now (layout_in c.args.store.now c.args.state.now) _ _ _ c.requires.some c.token_before-left.ensures c.token-right.ensures c.decision-fixed.ensures _ c.args.brk (state_in c.args.store.now c.args.state.now) refl (ap (λ (l : Line). l.style) c.self.view_is) c.try_step_by.new.store _ c.in_ok-next.ensures.none
    c.in_ok-next.ensures.some c.in_ok-next.ensures.layout c.in_ok-next.ensures.cost c.in_ok-next.ensures.bound
