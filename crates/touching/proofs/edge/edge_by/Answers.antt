use Rattle.std.proofs.Common.{◌∙◌}
use Rattle.touching.proofs.EdgeTables.{kind_told}
use Rattle.touching.proofs.edge.edge_by.Goals as goal

pub returns : goal.returns
returns c = c.told_edge.ensures ∙ kind_told c.args.kind c.args.long c.args.first
