use Rattle.std.proofs.Common.{◌∙◌, Option, None, replicate, ap, arith}
use Rattle.line_tokens.specs.declared.Fixed.{Fixed}
use Rattle.line_gaps.specs.Fixed.{fixed_of_id}
use Rattle.line_gaps.proofs.FixedGaps.{all_told, none_told}
use Rattle.line_gaps.proofs.OpenViews.{view_open}
use Rattle.line_gaps.proofs.fixed_view.fixed_of_view.Goals as goal

pub returns-then-is_view_open : goal.returns-then-is_view_open
returns-then-is_view_open c =
    c.in_ok-open.ensures
    ∙ (ap (λ n. replicate {A = Option Fixed} n None) c.len-count.ensures.count ∙ view_open c.args.arena.now c.args.plan.now c.args.view.now (c.is_view_open.ensures c.if-is_view_open.true))

pub returns : goal.returns
returns c = c.loop-place.invariant.told ∙ all_told (fixed_of_id c.args.arena.now c.args.plan.now) c.args.view.now c.loop-place.place (omega (arith, c.loop-place-test.false, c.len-count.ensures.count))

pub loop-place-init : goal.loop-place-init
loop-place-init c = record {
  within = omega arith;
  told = c.in_ok-fixed.ensures
      ∙ (ap (λ n. replicate {A = Option Fixed} n None) c.len-count.ensures.count ∙ none_told (fixed_of_id c.args.arena.now c.args.plan.now) c.args.view.now);
}
