use Rattle.std.proofs.lemmas.Bool.{or_parts}
use Rattle.replacements.specs.Decisions.{slot_of}
use Rattle.line_gaps.proofs.Inside.{open_told}
use Rattle.line_gaps.proofs.OpenGaps.{open_next}
use Rattle.line_gaps.proofs.fixed.are_eight_open.Goals as goal

pub loop-at-preserved : goal.loop-at-preserved
loop-at-preserved c = λ none.
    let parts = or_parts _ _ none in
    open_next c.args.plan.now c.args.tokens.now c.args.first c.loop-at.at c.token_at.result.now (c.loop-at.invariant parts.0) c.token_at.ensures
    (open_told (slot_of c.args.plan.now c.token_at.result.now.id.0) c.is_decided-decided.result c.is_decided-decided.ensures parts.1)
