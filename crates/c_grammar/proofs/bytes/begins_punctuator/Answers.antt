use Rattle.std.proofs.Common.{◌∙◌, arith}
use Rattle.c_chars.proofs.Tables.{table_told}
use Rattle.c_grammar.specs.Bytes.{begins_punctuator}
use Rattle.c_grammar.proofs.bytes.begins_punctuator.Goals as goal

pub returns : goal.returns
unfolding begins_punctuator
returns c = c.told.ensures ∙ table_told begins_punctuator c.args.byte (omega (arith, c.ranges.byte.fits))
