use Rattle.std.proofs.Common.{◌∙◌, subst, sym}
use Rattle.c_chars.specs.Characters.{is_word_byte}
use Rattle.c_chars.specs.Coming.{AreBytesPassed, ArePassed}
use Rattle.c_lexer.proofs.PlainBytes.{letter_item, words_items}
use Rattle.c_lexer.proofs.Plains.{word_ended}
use Rattle.c_lexer.proofs.word.cut_plain_word.Goals as goal

pub returns-then-ends_word-clause-off : goal.returns-then-ends_word-clause-off
returns-then-ends_word-clause-off c =
    word_ended c.args.begun.now.text c.args.begun.now.behind c.pass_word.new.self c.args.begun.now.first c.in-Some.character c.requires.begun c.requires.letter
    (subst (λ z. ArePassed is_word_byte z c.pass_word.new.self) c.ahead-left.ensures c.pass_word.ensures.passed) c.in-Some.ensures.some (sym c.ends_word.ensures ∙ c.if-ends_word.true)

pub returns-then-ends_word-clause-plain : goal.returns-then-ends_word-clause-plain
returns-then-ends_word-clause-plain c = record {
  first_is = letter_item c.args.begun.now.first.byte c.requires.letter;
  rest_are = words_items c.args.begun.now.behind c.pass_word.new.self (subst (λ z. AreBytesPassed is_word_byte z c.pass_word.new.self) c.ahead-left.ensures c.pass_word.ensures.bytes);
}
