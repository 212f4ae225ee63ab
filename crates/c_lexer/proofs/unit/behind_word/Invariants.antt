use Rattle.std.proofs.Common.{◌≡◌, ◌||◌, false, length}
use Rattle.c_chars.specs.Characters.{bytes_of}
use Rattle.c_chars.specs.Coming.{Coming}
use Rattle.c_grammar.specs.Grammar.{is_letter, is_digit, is_word_unit}
use Rattle.c_grammar.specs.Touch.{starts}
use Rattle.c_lexer.specs.Unit.{IsRunOff}
use Rattle.c_lexer.proofs.unit.behind_word.Given as goal

abbrev pub invariant-loop-left : goal.invariant-loop-left
invariant-loop-left l =
    (starts (λ c. is_letter c || is_digit c) (bytes_of l.rest.chars) ≡ false)
    × ((end : Coming) → IsRunOff is_word_unit l.rest end → IsRunOff is_word_unit l.text end)

abbrev pub decreases-loop-left : goal.decreases-loop-left
decreases-loop-left l = length l.rest.chars
