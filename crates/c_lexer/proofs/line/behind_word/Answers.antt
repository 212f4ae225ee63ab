use Rattle.std.proofs.Common.{◌∙◌, ◌||◌, ap, sym}
use Rattle.std.specs.List.{prefix_len}
use Rattle.c_chars.specs.Coming.{behind}
use Rattle.c_grammar.specs.Grammar.{is_letter, is_digit}
use Rattle.c_grammar.proofs.WordBytes.{word_byte}
use Rattle.c_lexer.proofs.Passing.{passed_run, prefix_next}
use Rattle.c_chars.specs.Characters.{bytes_of, is_word_byte}
use Rattle.c_lexer.proofs.line.behind_word.Goals as goal

pub loop-init : goal.loop-init
loop-init c =
    passed_run (λ x. is_letter x || is_digit x) is_word_byte c.ahead-rest.result c.pass_word.new.self word_byte c.pass_word.ensures.passed
    ∙ ap (λ z. behind z (prefix_len (λ x. is_letter x || is_digit x) (bytes_of z.chars))) c.ahead-rest.ensures

pub loop-preserved : goal.loop-preserved
loop-preserved c =
    sym (prefix_next (λ x. is_letter x || is_digit x) c.loop.rest c.next_of_word.new.chars c.in-Some.field-0 c.in-Some.ensures.some.0 c.in-Some.ensures.some.1 c.next_of_word.ensures.dialect c.in-Some.ensures.some.2) ∙ c.loop.invariant
