use Rattle.search_nodes.proofs.ListedNodes.{IsWalkedTo}
use Rattle.search_nodes.proofs.finding.find_on_chain.Given as goal

abbrev pub invariant-back : goal.invariant-back
invariant-back l = IsWalkedTo l.nodes l.links l.digest l.state l.initial.end l.end

abbrev pub decreases-back : goal.decreases-back
decreases-back l = l.end
