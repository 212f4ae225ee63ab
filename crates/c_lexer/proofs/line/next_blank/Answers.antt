use Rattle.std.proofs.Common.{◌∙◌, ◌||◌, true, sym, refl}
use Rattle.c_grammar.specs.Grammar.{is_white, is_new_line}
use Rattle.c_lexer.proofs.FirstBytes.{at_end, stepped, stopped}
use Rattle.c_lexer.proofs.line.next_blank.Goals as goal

pub returns-then-not-is_blank-clause-none : goal.returns-then-not-is_blank-clause-none
returns-then-not-is_blank-clause-none c = (stopped (λ x. is_white x || is_new_line x) c.args.chars.now.chars c.byte_at.result c.byte_at.ensures (sym c.is_blank.ensures ∙ c.if-not-is_blank.true), refl)

pub returns-clause-some : goal.returns-clause-some
returns-clause-some c = stepped (λ x. is_white x || is_new_line x) true c.args.chars.now c.next.new.self c.byte_at.result c.next.result c.byte_at.ensures (sym c.is_blank.ensures ∙ c.if-not-is_blank.false) c.next.ensures.some

pub returns-clause-none : goal.returns-clause-none
returns-clause-none c = at_end (λ x. is_white x || is_new_line x) c.args.chars.now c.next.new.self c.next.result c.next.ensures.none
