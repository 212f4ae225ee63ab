use Rattle.std.proofs.Common.{refl}
use Rattle.c_grammar.specs.Grammar.{is_number_unit}
use Rattle.c_lexer.proofs.Units.{number_greedy, number_some}
use Rattle.c_lexer.proofs.UnitsOff.{shrinks, run_off, run_at}
use Rattle.c_lexer.proofs.unit.behind_number.Goals as goal

pub loop-left-smaller : goal.loop-left-smaller
loop-left-smaller c = shrinks (is_number_unit c.args.dialect) c.loop-left.rest c.in-Some.left c.in-Some.left 0 (number_some c.args.dialect) c.in-Some.ensures refl

pub loop-left-preserved : goal.loop-left-preserved
loop-left-preserved c = λ end r. c.loop-left.invariant end (run_off (is_number_unit c.args.dialect) c.loop-left.rest c.in-Some.left end (number_some c.args.dialect) (number_greedy c.args.dialect) c.in-Some.ensures r)

pub returns : goal.returns
returns c = c.loop-left.invariant c.loop-left.rest (run_at (is_number_unit c.args.dialect) c.loop-left.rest c.in_default.ensures)
