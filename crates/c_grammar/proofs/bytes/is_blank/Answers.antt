use Rattle.std.proofs.Common.{◌∙◌, ◌||◌, arith}
use Rattle.c_chars.proofs.Tables.{table_told}
use Rattle.c_grammar.specs.Grammar.{is_white, is_new_line}
use Rattle.c_grammar.proofs.bytes.is_blank.Goals as goal

pub returns : goal.returns
unfolding is_white is_new_line
returns c = c.told.ensures ∙ table_told (λ b. is_white b || is_new_line b) c.args.byte (omega (arith, c.ranges.byte.fits))
