use Rattle.std.proofs.Common.{◌≡◌, ◌||◌, length}
use Rattle.std.specs.List.{prefix_len}
use Rattle.c_chars.specs.Characters.{bytes_of}
use Rattle.c_chars.specs.Coming.{behind}
use Rattle.c_grammar.specs.Grammar.{is_letter, is_digit}
use Rattle.c_lexer.proofs.line.behind_word.Given as goal

abbrev pub invariant-loop : goal.invariant-loop
invariant-loop l =
    behind l.rest (prefix_len (λ x. is_letter x || is_digit x) (bytes_of l.rest.chars)) ≡ behind l.text (prefix_len (λ x. is_letter x || is_digit x) (bytes_of l.text.chars))

abbrev pub decreases-loop : goal.decreases-loop
decreases-loop l = length l.rest.chars
