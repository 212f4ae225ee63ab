use Rattle.std.proofs.Common.{◌∙◌, arith}
use Rattle.touching.proofs.EdgeTables.{first_told}
use Rattle.touching.proofs.edge.first_of.Goals as goal

pub returns : goal.returns
returns c = c.told_first.ensures ∙ first_told c.args.byte (omega (arith, c.ranges.byte.fits))
