use Rattle.std.proofs.Common.{◌∙◌, subst, sym}
use Rattle.c_chars.specs.Characters.{is_word_byte}
use Rattle.c_chars.specs.Coming.{AreBytesPassed, ArePassed}
use Rattle.c_lexer.proofs.PlainBytes.{digit_item, words_items}
use Rattle.c_lexer.proofs.PlainNumbers.{digits_off, number_ended}
use Rattle.c_lexer.proofs.unit.cut_plain_number.Goals as goal

pub returns-then-ends_number-clause-off : goal.returns-then-ends_number-clause-off
returns-then-ends_number-clause-off c =
    digits_off c.args.begun.now.text c.args.begun.now.behind c.pass_word.new.self c.args.dialect c.args.begun.now.first c.requires.dialect c.requires.begun c.requires.digit
    (number_ended c.args.begun.now.behind c.pass_word.new.self c.args.dialect c.in-Some.character (c.requires.dialect ∙ sym c.requires.begun.dialect_is)
    (subst (λ z. ArePassed is_word_byte z c.pass_word.new.self) c.ahead-left.ensures c.pass_word.ensures.passed) c.in-Some.ensures.some (sym c.ends_number.ensures ∙ c.if-ends_number.true))

pub returns-then-ends_number-clause-plain : goal.returns-then-ends_number-clause-plain
returns-then-ends_number-clause-plain c = record {
  first_is = digit_item c.args.begun.now.first.byte c.requires.digit;
  rest_are = words_items c.args.begun.now.behind c.pass_word.new.self (subst (λ z. AreBytesPassed is_word_byte z c.pass_word.new.self) c.ahead-left.ensures c.pass_word.ensures.bytes);
}
