use Rattle.std.proofs.lemmas.Bool.{or_parts}
use Rattle.replacements.specs.Decisions.{slot_of}
use Rattle.line_gaps.proofs.Inside.{open_told}
use Rattle.line_gaps.proofs.OpenViews.{open_on}
use Rattle.line_gaps.proofs.fixed_view.is_row_open.Goals as goal

pub loop-id-preserved : goal.loop-id-preserved
loop-id-preserved c = λ none.
    let parts = or_parts _ _ none in
    open_on c.args.plan.now c.args.first c.loop-id.id (c.loop-id.invariant parts.0)
    (open_told (slot_of c.args.plan.now c.loop-id.id) c.is_decided-decided.result c.is_decided-decided.ensures parts.1)
