use Rattle.std.proofs.Common.{◌∙◌}
use Rattle.touching.proofs.EdgeTables.{touch_told}
use Rattle.touching.proofs.edge.touch_of.Goals as goal

pub returns : goal.returns
returns c = c.told_touch.ensures ∙ touch_told c.args.left c.args.right
