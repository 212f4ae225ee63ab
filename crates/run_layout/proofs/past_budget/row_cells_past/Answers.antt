use Rattle.std.proofs.Common.{◌≡◌, ◌∙◌, ◌+◌, ap, arith, suc}
use Rattle.line_tokens.specs.Tokens.{no_token}
use Rattle.break_search.proofs.Counting.{sum_to}
use Rattle.run_layout.proofs.OpenFrames.{cells_at, frames_more, frames_to, over_by_frames}
use Rattle.run_layout.proofs.past_budget.row_cells_past.Goals as goal

pub loop-at-preserved : goal.loop-at-preserved
loop-at-preserved c =
    let tokens = c.args.tokens.now in
    let at = c.loop-at.at in
    let frames = c.open_behind-frames.result in
    let known = c.loop-at.invariant in
    let open_now : frames ≡ frames_to tokens (suc at) = frames_more tokens at c.loop-at.frames c.depth.result frames c.role.result known.frames_are (c.role.ensures no_token) (c.depth.ensures no_token) c.open_behind-frames.ensures.is in
    let counted : c.loop-at.cells + (frames + 1) ≡ sum_to (cells_at tokens) (suc at) = omega (arith, open_now, known.cells_are) in
    let next : suc at ≡ at + 1 = omega arith in record {
      frames_are = open_now ∙ ap (λ n. frames_to tokens n) next;
      cells_are = counted ∙ ap (λ n. sum_to (cells_at tokens) n) next;
      few = omega (arith, c.if-cells-budget.false);
    }

pub returns-then-cells-budget : goal.returns-then-cells-budget
returns-then-cells-budget c =
    let tokens = c.args.tokens.now in
    let at = c.loop-at.at in
    let frames = c.open_behind-frames.result in
    let known = c.loop-at.invariant in
    let open_now : frames ≡ frames_to tokens (suc at) = frames_more tokens at c.loop-at.frames c.depth.result frames c.role.result known.frames_are (c.role.ensures no_token) (c.depth.ensures no_token) c.open_behind-frames.ensures.is in
    over_by_frames tokens at c.args.budget (c.loop-at.cells + (frames + 1)) (omega (arith, c.loop-at-test.true, c.len-at-end.ensures)) (omega (arith, open_now, known.cells_are)) (omega (arith, c.if-cells-budget.true))
