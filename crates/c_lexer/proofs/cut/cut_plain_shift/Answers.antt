use Rattle.std.proofs.lemmas.Bool.{ne_eqb}
use Rattle.c_lexer.specs.Reading.{is_own_byte}
use Rattle.c_lexer.proofs.PlainBytes.{long_mark, mark_item, next_one, shift_item, shift_mark}
use Rattle.c_lexer.proofs.Plains.{shift_off}
use Rattle.c_lexer.proofs.cut.cut_plain_shift.Goals as goal

pub returns-else-third-eq61-clause-off : goal.returns-else-third-eq61-clause-off
returns-else-third-eq61-clause-off c =
    shift_off c.args.begun.now.text c.args.begun.now.behind c.behind-left.result c.args.dialect c.args.begun.now.first c.args.second c.in-Some.third c.requires.dialect c.requires.begun c.requires.second
    (long_mark c.args.begun.now.first.byte (shift_mark c.args.begun.now.first.byte c.args.second.byte c.requires.shift)) c.requires.shift c.in-Some.ensures.some (ne_eqb c.in-Some.third.byte 61 c.if-third-eq61.false)
    c.behind-left.ensures

pub returns-else-third-eq61-clause-plain : goal.returns-else-third-eq61-clause-plain
returns-else-third-eq61-clause-plain c = record {
  first_is = mark_item c.args.begun.now.first.byte (shift_mark c.args.begun.now.first.byte c.args.second.byte c.requires.shift);
  rest_are = next_one is_own_byte c.args.begun.now.behind c.behind-left.result c.args.second c.requires.second c.requires.plain.0 c.requires.plain.1
      (shift_item c.args.begun.now.first.byte c.args.second.byte c.requires.shift) c.behind-left.ensures;
}
