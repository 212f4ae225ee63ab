use Rattle.std.proofs.lemmas.Bool.{OnTrue_at, OnTrue_from}
use Rattle.search_frontier.proofs.Queue.{least_below}
use Rattle.search_frontier.proofs.frontier.is_least_below.Goals as goal

pub returns-then-is_up_to_at : goal.returns-then-is_up_to_at
returns-then-is_up_to_at c = OnTrue_from _ _ (λ yes. least_below (record { 0 = c.args.entry }) c.args.entries.now c.requires (OnTrue_at c.if-is_up_to_at.true c.is_up_to_at.ensures) (OnTrue_at yes c.is_up_to_at-then-is_up_to_at.ensures))
