use Rattle.std.proofs.Common.{◌≡◌, length, false}
use Rattle.c_chars.specs.Characters.{bytes_of}
use Rattle.c_chars.specs.Coming.{behind}
use Rattle.c_lexer.specs.Header.{ends_name, name_len}
use Rattle.c_lexer.proofs.quote.behind_name.Given as goal

abbrev pub invariant-loop-character : goal.invariant-loop-character
invariant-loop-character l =
    (ends_name l.last l.some (bytes_of l.rest.chars) ≡ ends_name l.last false (bytes_of l.text.chars))
    × (behind l.rest (name_len l.last (bytes_of l.rest.chars)) ≡ behind l.text (name_len l.last (bytes_of l.text.chars)))

abbrev pub decreases-loop-character : goal.decreases-loop-character
decreases-loop-character l = length l.rest.chars
