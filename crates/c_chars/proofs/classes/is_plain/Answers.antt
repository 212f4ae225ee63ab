use Rattle.std.proofs.Common.{◌∙◌, arith}
use Rattle.c_chars.specs.Characters.{is_plain}
use Rattle.c_chars.proofs.Tables.{table_told}
use Rattle.c_chars.proofs.classes.is_plain.Goals as goal

pub returns : goal.returns
returns c = c.told.ensures ∙ table_told is_plain c.args.byte (omega (arith, c.ranges.byte.fits))
