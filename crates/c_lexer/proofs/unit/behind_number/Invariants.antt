use Rattle.std.proofs.Common.{length}
use Rattle.c_chars.specs.Coming.{Coming}
use Rattle.c_grammar.specs.Grammar.{is_number_unit}
use Rattle.c_lexer.specs.Unit.{IsRunOff}
use Rattle.c_lexer.proofs.unit.behind_number.Given as goal

abbrev pub invariant-loop-left : goal.invariant-loop-left
invariant-loop-left l = (end : Coming) → IsRunOff (is_number_unit l.dialect) l.rest end → IsRunOff (is_number_unit l.dialect) l.text end

abbrev pub decreases-loop-left : goal.decreases-loop-left
decreases-loop-left l = length l.rest.chars
