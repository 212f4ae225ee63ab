use Rattle.std.proofs.Common.{◌∙◌, arith}
use Rattle.c_chars.proofs.Tables.{table_told}
use Rattle.c_grammar.specs.Grammar.{is_letter}
use Rattle.c_grammar.proofs.bytes.is_letter.Goals as goal

pub returns : goal.returns
unfolding is_letter
returns c = c.told.ensures ∙ table_told is_letter c.args.byte (omega (arith, c.ranges.byte.fits))
