use Rattle.std.proofs.Common.{arith}
use Rattle.line_gaps.proofs.OpenViews.{open_further}
use Rattle.line_gaps.proofs.fixed_view.is_view_open.Goals as goal

pub loop-place-preserved : goal.loop-place-preserved
loop-place-preserved c = record {
  within = omega (arith, c.stretch_near-stretch.ensures.within, c.len-count.ensures.count);
  open_gaps = open_further c.args.plan.now c.args.view.now c.loop-place.place c.stretch_near-stretch.result c.stretch_near-stretch.ensures.are c.loop-place.invariant.open_gaps
      (c.is_row_open.ensures c.if-not-is_row_open.false);
}
