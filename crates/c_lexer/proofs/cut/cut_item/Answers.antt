use Rattle.std.proofs.Common.{◌∙◌, sym, true}
use Rattle.c_chars.specs.Characters.{bytes_of}
use Rattle.c_grammar.specs.Grammar.{is_letter}
use Rattle.c_lexer.proofs.FirstBytes.{starts_so}
use Rattle.c_lexer.proofs.WordsOff.{letter_first, rare_word}
use Rattle.c_lexer.proofs.cut.cut_item.Goals as goal

pub cut_word-requires-clause-letter : goal.cut_word-requires-clause-letter
cut_word-requires-clause-letter c =
    letter_first (bytes_of c.args.text.now.chars) (starts_so is_letter c.args.first (bytes_of c.args.text.now.chars) true c.requires.first (sym c.is_letter.ensures ∙ c.if-is_letter.true))

pub cut_word-requires-then-begins_rare_word-clause-letter : goal.cut_word-requires-then-begins_rare_word-clause-letter
cut_word-requires-then-begins_rare_word-clause-letter c = rare_word (bytes_of c.args.text.now.chars) (c.begins_rare_word.ensures.yes c.if-begins_rare_word.true)
