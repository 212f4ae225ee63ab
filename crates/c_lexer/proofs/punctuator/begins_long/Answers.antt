use Rattle.std.proofs.Common.{◌∙◌, arith}
use Rattle.c_chars.proofs.Tables.{table_told}
use Rattle.c_lexer.specs.Run.{begins_long}
use Rattle.c_lexer.proofs.punctuator.begins_long.Goals as goal

pub returns : goal.returns
unfolding begins_long
returns c = c.told.ensures ∙ table_told begins_long c.args.byte (omega (arith, c.ranges.byte.fits))
