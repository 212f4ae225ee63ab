use Rattle.std.proofs.Common.{◌∙◌, ap}
use Rattle.branch_runs.specs.declared.node.Node.{Node}
use Rattle.branch_runs.proofs.Nodes.{last_end}
use Rattle.branch_runs.proofs.node.end_of.Goals as goal

pub returns-in-Some : goal.returns-in-Some
returns-in-Some c =
    let item = c.in-Some.ensures.item in
    ap (λ (node : Node). node.end) item.1 ∙ last_end c.args.nodes.now 0 c.in-Some.node.now item.3.0
