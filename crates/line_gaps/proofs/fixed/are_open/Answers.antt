use Rattle.std.proofs.Common.{arith}
use Rattle.replacements.specs.Decisions.{slot_of}
use Rattle.line_gaps.proofs.Inside.{open_told}
use Rattle.line_gaps.proofs.OpenGaps.{open_next}
use Rattle.line_gaps.proofs.fixed.are_open.Goals as goal

pub loop-at-preserved : goal.loop-at-preserved
loop-at-preserved c = λ i d within.
    open_next c.args.plan.now c.args.tokens.now 0 c.loop-at.at c.token_at.result.now (λ j e more less. c.loop-at.invariant j e less) c.token_at.ensures
    (open_told (slot_of c.args.plan.now c.token_at.result.now.id.0) c.is_decided.result c.is_decided.ensures c.if-is_decided.false) i d (omega arith) within
