use Rattle.std.proofs.Common.{◌∙◌, arith}
use Rattle.std.specs.Prelude.{codes}
use Rattle.c_chars.proofs.Tables.{table_told}
use Rattle.c_grammar.specs.Grammar.{is_of}
use Rattle.c_lexer.proofs.Puncts.{equals_pair}
use Rattle.c_lexer.proofs.punctuator.is_pair.Goals as goal

pub returns-then-second-eq61 : goal.returns-then-second-eq61
returns-then-second-eq61 c =
    c.told.ensures ∙ (table_told (is_of (codes "=!+<>-|&*/%^")) c.args.first (omega (arith, c.ranges.first.fits)) ∙ equals_pair c.args.first c.args.second c.if-second-eq61.true)
