use Rattle.std.proofs.Common.{◌∙◌, arith}
use Rattle.c_chars.proofs.Tables.{table_told}
use Rattle.c_grammar.specs.Bytes.{is_beyond}
use Rattle.c_grammar.specs.Grammar.{is_digit, is_letter, is_sign}
use Rattle.c_lexer.specs.Class.{ends_number}
use Rattle.c_lexer.proofs.class.ends_number.Goals as goal

pub returns : goal.returns
unfolding is_letter is_digit is_sign is_beyond
returns c = c.told.ensures ∙ table_told ends_number c.args.byte (omega (arith, c.ranges.byte.fits))
