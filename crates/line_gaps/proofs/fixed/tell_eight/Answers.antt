use Rattle.std.proofs.Common.{◌∙◌, ◌+◌, get_or, ap, arith}
use Rattle.replacements.specs.Breaks.{fixed_by}
use Rattle.line_gaps.specs.Fixed.{fixed_of_token}
use Rattle.line_gaps.proofs.FixedGaps.{told_open}
use Rattle.line_gaps.proofs.fixed.tell_eight.Goals as goal

pub returns-then-are_eight_open : goal.returns-then-are_eight_open
returns-then-are_eight_open c =
    let arena = c.args.arena.now in
    let plan = c.args.plan.now in
    let tokens = c.args.tokens.now in
    record {
      told = c.requires.told
          ∙ told_open (fixed_of_token arena plan) tokens c.args.first (c.args.first + 8) (omega arith) (λ i d more less. ap (fixed_by arena (get_or tokens i d).id.0) (c.are_eight_open.ensures c.if-are_eight_open.true i d more less));
    }
