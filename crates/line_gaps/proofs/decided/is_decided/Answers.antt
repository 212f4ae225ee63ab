use Rattle.std.proofs.Common.{arith}
use Rattle.line_gaps.proofs.Stretched.{decided_further, open_in_line}
use Rattle.line_gaps.proofs.decided.is_decided.Goals as goal

pub returns-then-not-is_row_decided-clause-no : goal.returns-then-not-is_row_decided-clause-no
returns-then-not-is_row_decided-clause-no c =
    open_in_line c.args.plan.now c.args.view.now c.args.line.now c.loop-place.place c.stretch_near-stretch.result c.stretch_near-stretch.ensures.are c.loop-place.invariant.from c.stretch_near-stretch.ensures.within
    c.if-not-is_row_decided.ensures.no

pub loop-place-preserved : goal.loop-place-preserved
loop-place-preserved c = record {
  from = omega (arith, c.loop-place.invariant.from);
  some = decided_further c.args.plan.now c.args.view.now c.args.line.now.first c.loop-place.place c.stretch_near-stretch.result c.stretch_near-stretch.ensures.are c.loop-place.invariant.some
      c.if-not-is_row_decided.ensures.yes;
}
