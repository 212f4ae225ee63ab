use Rattle.std.proofs.Common.{◌≡◌, length, false}
use Rattle.c_chars.specs.Characters.{bytes_of}
use Rattle.c_chars.specs.Coming.{behind}
use Rattle.c_lexer.specs.Quote.{closes_quote, quote_len}
use Rattle.c_lexer.proofs.quote.behind_quote.Given as goal

abbrev pub invariant-loop-character : goal.invariant-loop-character
invariant-loop-character l =
    (closes_quote l.quote l.escaped (bytes_of l.rest.chars) ≡ closes_quote l.quote false (bytes_of l.text.chars))
    × (behind l.rest (quote_len l.quote l.escaped (bytes_of l.rest.chars)) ≡ behind l.text (quote_len l.quote false (bytes_of l.text.chars)))

abbrev pub decreases-loop-character : goal.decreases-loop-character
decreases-loop-character l = length l.rest.chars
