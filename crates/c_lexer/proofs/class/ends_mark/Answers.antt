use Rattle.std.proofs.Common.{◌∙◌, arith}
use Rattle.c_chars.proofs.Tables.{table_told}
use Rattle.c_grammar.specs.Grammar.{is_digit}
use Rattle.c_lexer.specs.Class.{ends_mark}
use Rattle.c_lexer.specs.Run.{goes_on_long}
use Rattle.c_lexer.proofs.class.ends_mark.Goals as goal

pub returns : goal.returns
unfolding is_digit goes_on_long
returns c = c.told.ensures ∙ table_told ends_mark c.args.byte (omega (arith, c.ranges.byte.fits))
