use Rattle.std.proofs.Common.{◌≡◌, ◌∙◌, ap, length, slice_set, List, Option, arith}
use Rattle.line_tokens.specs.declared.Fixed.{Fixed}
use Rattle.line_gaps.specs.Fixed.{fixed_of_token}
use Rattle.line_gaps.proofs.FixedGaps.{length_told, told_more}
use Rattle.line_gaps.proofs.fixed.tell_decided.Goals as goal

pub bounds-fixed-at : goal.bounds-fixed-at
bounds-fixed-at c =
    let len : length c.loop-at.fixed ≡ length c.args.tokens.now =
    ap (λ (xs : List (Option Fixed)). length xs) c.loop-at.invariant.told ∙ length_told (fixed_of_token c.args.arena.now c.args.plan.now) c.args.tokens.now c.loop-at.at in
    omega (arith, len, c.loop-at-test.true, c.requires.inside)

pub loop-at-preserved : goal.loop-at-preserved
loop-at-preserved c = record {
  order = omega (arith, c.loop-at-test.true);
  told = ap (λ (xs : List (Option Fixed)). slice_set xs c.loop-at.at c.fixed_of.result) c.loop-at.invariant.told
      ∙ told_more (fixed_of_token c.args.arena.now c.args.plan.now) c.args.tokens.now c.loop-at.at c.token_at.result.now c.fixed_of.result c.token_at.ensures c.fixed_of.ensures;
}
