use Rattle.std.proofs.Common.{ap, ◌∙◌}
use Rattle.pp_events.proofs.Arguments.{quoted_next}
use Rattle.pp_events.proofs.replace.quoted_items.Goals as goal

pub loop-tok-preserved : goal.loop-tok-preserved
loop-tok-preserved c =
    quoted_next c.args.toks.now c.loop-tok.tok-index c.tok-item.result c.loop-tok.items.items c.push.new.self.items c.spaced.result c.loop-tok-test.true c.tok-item.is c.in_ok-push.ensures.items
    (c.spaced.ensures ∙ ap (λ x. (c.tok-item.result.white, x)) c.in_ok-token.ensures)
    ∙ c.loop-tok.invariant
