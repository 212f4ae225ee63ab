use Rattle.std.proofs.Common.{◌∙◌, sym}
use Rattle.std.proofs.lemmas.Bool.{or_parts}
use Rattle.early_gaps.proofs.Staying.{one_unmarked}
use Rattle.early_gaps.proofs.keep.is_some_marked.Goals as goal

pub loop-next-preserved : goal.loop-next-preserved
loop-next-preserved c = λ none.
    let parts = or_parts _ _ none in
    one_unmarked c.args.frozen.now c.args.first c.loop-next.next (sym c.is_marked-marked.ensures ∙ parts.1) (c.loop-next.invariant parts.0)
