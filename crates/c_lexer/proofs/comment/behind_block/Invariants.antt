use Rattle.std.proofs.Common.{◌≡◌, length, false}
use Rattle.c_chars.specs.Characters.{bytes_of}
use Rattle.c_chars.specs.Coming.{behind}
use Rattle.c_lexer.specs.Comment.{closes_block, block_len}
use Rattle.c_lexer.proofs.comment.behind_block.Given as goal

abbrev pub invariant-loop-character : goal.invariant-loop-character
invariant-loop-character l =
    (closes_block l.star (bytes_of l.rest.chars) ≡ closes_block false (bytes_of l.text.chars))
    × (behind l.rest (block_len l.star (bytes_of l.rest.chars)) ≡ behind l.text (block_len false (bytes_of l.text.chars)))

abbrev pub decreases-loop-character : goal.decreases-loop-character
decreases-loop-character l = length l.rest.chars
