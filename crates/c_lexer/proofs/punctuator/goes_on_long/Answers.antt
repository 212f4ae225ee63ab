use Rattle.std.proofs.Common.{◌∙◌, arith}
use Rattle.c_chars.proofs.Tables.{table_told}
use Rattle.c_lexer.specs.Run.{goes_on_long}
use Rattle.c_lexer.proofs.punctuator.goes_on_long.Goals as goal

pub returns : goal.returns
unfolding goes_on_long
returns c = c.told.ensures ∙ table_told goes_on_long c.args.byte (omega (arith, c.ranges.byte.fits))
