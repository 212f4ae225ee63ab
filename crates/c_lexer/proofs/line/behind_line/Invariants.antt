use Rattle.std.proofs.Common.{◌≡◌, not, length}
use Rattle.std.specs.List.{prefix_len}
use Rattle.c_chars.specs.Characters.{bytes_of}
use Rattle.c_chars.specs.Coming.{behind}
use Rattle.c_grammar.specs.Grammar.{is_new_line}
use Rattle.c_lexer.proofs.line.behind_line.Given as goal

abbrev pub invariant-loop : goal.invariant-loop
invariant-loop l = behind l.rest (prefix_len (λ x. not (is_new_line x)) (bytes_of l.rest.chars)) ≡ behind l.text (prefix_len (λ x. not (is_new_line x)) (bytes_of l.text.chars))

abbrev pub decreases-loop : goal.decreases-loop
decreases-loop l = length l.rest.chars
