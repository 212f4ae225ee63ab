use Rattle.std.proofs.Common.{◌∙◌, sym}
use Rattle.std.proofs.lemmas.Bool.{both_ways}
use Rattle.c_chars.specs.Characters.{bytes_of}
use Rattle.c_grammar.specs.Touch.{starts}
use Rattle.c_grammar.specs.Bytes.{is_quote_mark}
use Rattle.c_lexer.proofs.FirstBytes.{quote_at}
use Rattle.c_lexer.proofs.WordsOff.{word_off}
use Rattle.c_lexer.proofs.word.cut_word.Goals as goal

pub returns : goal.returns
returns c =
    word_off c.args.text.now c.behind_word-left.result c.requires.letter c.behind_word-left.ensures
    (λ q. absurd (both_ways (starts is_quote_mark (bytes_of c.behind_word-left.result.chars)) (sym (c.is_quote_mark.ensures ∙ quote_at (bytes_of c.behind_word-left.result.chars) c.byte_at.result c.byte_at.ensures) ∙ c.if-is_quote_mark.false) q))
