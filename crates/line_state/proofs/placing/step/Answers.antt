use Rattle.std.proofs.Common.{◌≡◌, ℕ, ◌+◌, ◌∙◌, List, ap, arith}
use Rattle.line_tokens.specs.Columns.{end_of}
use Rattle.frame_store.specs.declared.frames.Frame.{Frame}
use Rattle.frame_store.specs.Frames.{with_topmost}
use Rattle.line_state.specs.declared.spot.Spot.{Spot}
use Rattle.line_state.specs.Layout.{Layout, layout_of, gap_before, spot_of, open_frames, start_at, start_of, placed_frame, with_opened, frames_after, cost_at}
use Rattle.line_state.proofs.placing.step.Goals as goal

pub returns-clause-layout : goal.returns-clause-layout
returns-clause-layout c =
    let style = c.args.style.now in
    let state = c.args.state.now in
    let right = c.args.right.now in
    let layout = layout_of state in
    let gap = gap_before layout c.args.left.now right c.args.fixed in
    let column : c.end_of.result ≡ end_of right (start_of style layout gap c.args.brk) =
    c.end_of.ensures ∙ ap (end_of right) (c.start_column-start.ensures ∙ ap (λ (s : Spot). start_at style s gap c.args.brk) c.spot_before-spot.ensures) in
    let top : c.placed-top.result ≡ placed_frame style (spot_of layout gap) gap c.args.brk = c.placed-top.ensures ∙ ap (λ (s : Spot). placed_frame style s gap c.args.brk) c.spot_before-spot.ensures in
    let frames : c.in_ok-frames-2.frames ≡ frames_after style layout gap c.args.brk =
    c.in_ok-frames-2.ensures ∙ ap (λ (fs : List Frame). with_opened style right.role state.base (with_topmost fs c.placed-top.result)) c.in_ok-frames.ensures
    ∙ ap (λ (f : Frame). with_opened style right.role state.base (with_topmost (open_frames layout gap) f)) top in
    ap (λ (x : ℕ). let l : Layout = record { index = state.index + 1; column = x; base = state.base; frames = c.in_ok-frames-2.frames } in l) column
    ∙ ap (λ (fs : List Frame). let l : Layout = record { index = state.index + 1; column = end_of right (start_of style layout gap c.args.brk); base = state.base; frames = fs } in l) frames

pub returns-clause-cost : goal.returns-clause-cost
returns-clause-cost c =
    let gap = gap_before (layout_of c.args.state.now) c.args.left.now c.args.right.now c.args.fixed in
    ap (λ (cost : ℕ). c.args.state.now.cost + cost) (c.from.ensures ∙ c.cost-cost.ensures ∙ ap (λ (s : Spot). cost_at c.args.style.now s gap c.args.brk) c.spot_before-spot.ensures)

pub returns-clause-bound : goal.returns-clause-bound
returns-clause-bound c = omega (arith, c.from.ensures, c.cost-cost.type_inv, c.requires.cost)
