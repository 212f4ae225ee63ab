use Rattle.std.proofs.Common.{arith}
use Rattle.replacements.proofs.StandingBlanks.{each_told}
use Rattle.replacements.proofs.same.blanks_told.Goals as goal

pub returns : goal.returns
returns c = each_told c.args.byte (omega (arith, c.ranges.byte.fits))
