use Rattle.std.proofs.Common.{◌∙◌, arith}
use Rattle.c_chars.proofs.Tables.{table_told}
use Rattle.c_lexer.specs.Class.{is_lone_mark}
use Rattle.c_lexer.proofs.class.is_lone_mark.Goals as goal

pub returns : goal.returns
unfolding is_lone_mark
returns c = c.told.ensures ∙ table_told is_lone_mark c.args.byte (omega (arith, c.ranges.byte.fits))
