use Rattle.std.proofs.Common.{◌<◌, length, subst, sym, arith}
use Rattle.c_grammar.specs.Place.{place_of}
use Rattle.c_lexer.proofs.Nexts.{next_of_some}
use Rattle.c_lexer.proofs.next.cut_begun.Goals as goal

pub returns-clause-next : goal.returns-clause-next
returns-clause-next c =
    next_of_some (place_of c.args.standing) c.args.begun.now.text c.cut_plain.result (subst (λ z. 0 < length z) (sym c.requires.begun.chars_are) (omega arith))
    (λ e b. c.is_behind_include.ensures c.if-is_behind_include.false e) c.cut_plain.ensures.off
