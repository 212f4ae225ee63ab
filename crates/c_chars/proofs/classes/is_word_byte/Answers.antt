use Rattle.std.proofs.Common.{◌∙◌, arith}
use Rattle.c_chars.specs.Characters.{is_word_byte}
use Rattle.c_chars.proofs.Tables.{table_told}
use Rattle.c_chars.proofs.classes.is_word_byte.Goals as goal

pub returns : goal.returns
unfolding is_word_byte
returns c = c.told.ensures ∙ table_told is_word_byte c.args.byte (omega (arith, c.ranges.byte.fits))
