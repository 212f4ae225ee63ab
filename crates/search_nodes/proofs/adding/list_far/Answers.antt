use Rattle.std.proofs.Common.{◌≡◌}
use Rattle.search_nodes.specs.Groups.{AreListed}
use Rattle.search_nodes.proofs.Grouping.{on_ok}
use Rattle.search_nodes.proofs.adding.list_far.Goals as goal

pub returns-then-rank-ne-MOST_ON_CHAIN-clause-others : goal.returns-then-rank-ne-MOST_ON_CHAIN-clause-others
returns-then-rank-ne-MOST_ON_CHAIN-clause-others c =
    let others : c.args.rank ≡ 8 → AreListed c.args.nodes.now c.enter.new.groups.items c.args.end c.args.rank = λ full. absurd (c.if-rank-ne-MOST_ON_CHAIN.true full) in
    on_ok _ _ others

pub returns-clause-kept : goal.returns-clause-kept
returns-clause-kept c = λ i d u h. c.enter-2.ensures.kept i d u (c.list_chain.ensures.kept i d u h)

pub returns-clause-others : goal.returns-clause-others
returns-clause-others c =
    let others : c.args.rank ≡ 8 → AreListed c.args.nodes.now c.enter-2.new.groups.items c.args.end c.args.rank = λ full u node at among. c.enter-2.ensures.kept _ _ u (c.in_ok-list_chain.ensures.listed u node at among) in
    on_ok _ _ others
