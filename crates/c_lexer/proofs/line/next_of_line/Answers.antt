use Rattle.std.proofs.Common.{◌∙◌, not, sym, ap, refl}
use Rattle.c_chars.specs.Characters.{bytes_of}
use Rattle.c_grammar.specs.Grammar.{is_new_line}
use Rattle.c_grammar.specs.Touch.{starts}
use Rattle.c_lexer.proofs.line.next_of_line.Goals as goal

pub returns-then-is_new_line-clause-none : goal.returns-then-is_new_line-clause-none
returns-then-is_new_line-clause-none c = (
  ap (λ z. starts (λ x. not (is_new_line x)) (bytes_of z.chars)) (sym c.ahead-ahead.ensures)
      ∙ (ap (λ s. starts (λ x. not (is_new_line x)) (bytes_of s)) c.in-Some.ensures.some.0 ∙ ap not (sym c.is_new_line.ensures ∙ c.if-is_new_line.true)),
  refl,
)

pub returns-clause-some : goal.returns-clause-some
returns-clause-some c = (ap (λ z. z.chars) (sym c.ahead-ahead.ensures) ∙ c.in-Some.ensures.some.0, c.in-Some.ensures.some.1, sym c.is_new_line.ensures ∙ c.if-is_new_line.false)
