use Rattle.std.proofs.Common.{refl, arith}
use Rattle.run_parts.proofs.RowsDecided.{part_open, part_up_to, row_further}
use Rattle.run_parts.proofs.part_rows.is_part_decided.Goals as goal

pub loop-place-init : goal.loop-place-init
loop-place-init c = record { from = omega arith; all = λ j low high. absurd (omega (arith, low, high)) }

pub loop-place-preserved : goal.loop-place-preserved
loop-place-preserved c = record {
  from = omega (arith, c.loop-place.invariant.from);
  all = row_further c.args.plan.now c.args.view.now c.args.first c.loop-place.place c.at_near-id.result.0 c.min-behind.result (λ k low. c.row_behind.ensures.row k (omega (arith, low, c.min-behind.ensures))) c.if-not-is_row_decided.ensures.yes c.loop-place.invariant.all;
}

pub returns-then-not-is_row_decided : goal.returns-then-not-is_row_decided
returns-then-not-is_row_decided c = (
  (λ t. cc),
  (λ all. absurd (part_open c.args.plan.now c.args.view.now c.args.first c.args.end c.loop-place.place c.at_near-id.result.0 c.min-behind.result c.loop-place.invariant.from (omega (arith, c.min-behind.ensures, c.loop-place-test.true)) c.requires.inside
      (λ k low. c.row_behind.ensures.row k (omega (arith, low, c.min-behind.ensures))) c.if-not-is_row_decided.ensures.no all)),
)

pub returns : goal.returns
returns c = (
  (λ t. part_up_to c.args.plan.now c.args.view.now c.args.first c.args.end c.loop-place.place (omega (arith, c.loop-place-test.false)) c.loop-place.invariant.all),
  (λ all. refl),
)
