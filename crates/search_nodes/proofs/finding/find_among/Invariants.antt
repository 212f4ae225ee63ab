use Rattle.std.proofs.Common.{ℕ}
use Rattle.search_nodes.specs.Groups.{LacksPlace}
use Rattle.search_nodes.proofs.NodeChains.{IsWalked}
use Rattle.search_nodes.proofs.finding.find_among.Given as goal

abbrev pub invariant-back : goal.invariant-back
invariant-back l = IsWalked (λ (v : ℕ). LacksPlace l.nodes v l.state) l.nodes l.initial.end l.count l.end l.left

abbrev pub decreases-back : goal.decreases-back
decreases-back l = l.left
