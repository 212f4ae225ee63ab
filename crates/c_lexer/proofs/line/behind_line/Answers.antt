use Rattle.std.proofs.Common.{◌∙◌, not, sym, ap}
use Rattle.c_grammar.specs.Grammar.{is_new_line}
use Rattle.c_lexer.proofs.Passing.{prefix_next}
use Rattle.c_lexer.proofs.line.behind_line.Goals as goal

pub loop-preserved : goal.loop-preserved
loop-preserved c =
    sym (prefix_next (λ x. not (is_new_line x)) c.loop.rest c.next_of_line.new.chars c.in-Some.field-0 c.in-Some.ensures.some.0 c.in-Some.ensures.some.1 c.next_of_line.ensures.dialect (ap not c.in-Some.ensures.some.2)) ∙ c.loop.invariant
