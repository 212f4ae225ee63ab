use Rattle.std.proofs.Common.{◌∙◌, ◌||◌, true, sym, refl}
use Rattle.c_grammar.specs.Grammar.{is_letter, is_digit}
use Rattle.c_lexer.proofs.FirstBytes.{at_end, stepped, stopped}
use Rattle.c_lexer.proofs.line.next_of_word.Goals as goal

pub returns-then-not-is_word-clause-none : goal.returns-then-not-is_word-clause-none
returns-then-not-is_word-clause-none c = (stopped (λ x. is_letter x || is_digit x) c.args.chars.now.chars c.byte_at.result c.byte_at.ensures (sym c.is_word.ensures ∙ c.if-not-is_word.true), refl)

pub returns-clause-some : goal.returns-clause-some
returns-clause-some c = stepped (λ x. is_letter x || is_digit x) true c.args.chars.now c.next.new.self c.byte_at.result c.next.result c.byte_at.ensures (sym c.is_word.ensures ∙ c.if-not-is_word.false) c.next.ensures.some

pub returns-clause-none : goal.returns-clause-none
returns-clause-none c = at_end (λ x. is_letter x || is_digit x) c.args.chars.now c.next.new.self c.next.result c.next.ensures.none
