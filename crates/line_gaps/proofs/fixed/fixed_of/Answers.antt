use Rattle.std.proofs.Common.{◌∙◌, get_or, length, ap, arith}
use Rattle.replacements.specs.Breaks.{fixed_by}
use Rattle.line_gaps.specs.Fixed.{fixed_of_token}
use Rattle.line_gaps.proofs.FixedGaps.{all_told, none_told, told_open}
use Rattle.line_gaps.proofs.OpenGaps.{none_fixed}
use Rattle.line_gaps.proofs.fixed.fixed_of.Goals as goal

pub are_open-requires : goal.are_open-requires
are_open-requires c = record { within = c.requires.within; front = c.open_front-front.ensures.open_gaps }

pub returns-then-are_open : goal.returns-then-are_open
returns-then-are_open c = c.in_ok-open.ensures ∙ none_fixed c.args.arena.now c.args.plan.now c.args.tokens.now (c.are_open.ensures c.if-are_open.true)

pub loop-first-init : goal.loop-first-init
loop-first-init c =
    let arena = c.args.arena.now in
    let plan = c.args.plan.now in
    let tokens = c.args.tokens.now in
    let f = fixed_of_token arena plan in
    record {
      within = c.open_front-front.ensures.within;
      told = c.in_ok-fixed.ensures ∙ (none_told f tokens
          ∙ told_open f tokens 0 c.open_front-front.result (omega arith) (λ i d more less. ap (fixed_by arena (get_or tokens i d).id.0) (c.open_front-front.ensures.open_gaps i d less)));
    }

pub tell_eight-requires : goal.tell_eight-requires
tell_eight-requires c = record {
  whole = c.requires.whole;
  within = c.requires.within;
  room = omega (arith, c.loop-first-test.true);
  told = c.loop-first.invariant.told;
}

pub tell_decided-requires : goal.tell_decided-requires
tell_decided-requires c = record {
  whole = c.requires.whole;
  within = c.requires.within;
  order = c.loop-first.invariant.within;
  inside = omega arith;
  told = c.loop-first.invariant.told;
}

pub returns : goal.returns
returns c = c.tell_decided.ensures.told ∙ all_told (fixed_of_token c.args.arena.now c.args.plan.now) c.args.tokens.now (length c.args.tokens.now) (omega arith)
