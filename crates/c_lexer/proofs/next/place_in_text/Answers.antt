use Rattle.std.proofs.Common.{◌<◌, length, subst, sym, arith}
use Rattle.c_grammar.specs.Place.{place_of}
use Rattle.c_lexer.proofs.Nexts.{next_in_text}
use Rattle.c_lexer.proofs.Plains.{begun_first}
use Rattle.c_lexer.proofs.next.place_in_text.Goals as goal

pub past_begun_in_text-requires-clause-first : goal.past_begun_in_text-requires-clause-first
past_begun_in_text-requires-clause-first c = begun_first c.args.begun.now.text c.args.begun.now.behind c.args.begun.now.first c.requires.begun

pub returns-in-Some-past_begun_in_text-clause-next : goal.returns-in-Some-past_begun_in_text-clause-next
returns-in-Some-past_begun_in_text-clause-next c =
    next_in_text (place_of c.args.standing) c.args.begun.now.text c.in-Some.left c.in-Some.kind (subst (λ z. 0 < length z) (sym c.requires.begun.chars_are) (omega arith)) c.requires.in_text c.in-Some.ensures.off
