use Rattle.std.proofs.Common.{◌≡◌, length}
use Rattle.c_chars.specs.Characters.{bytes_of}
use Rattle.c_chars.specs.Coming.{behind}
use Rattle.c_lexer.specs.Comment.{line_len}
use Rattle.c_lexer.proofs.Passing.{line_end}
use Rattle.c_lexer.proofs.comment.behind_line.Given as goal

abbrev pub invariant-loop-character : goal.invariant-loop-character
invariant-loop-character l = line_end l.last l.rest l.kept ≡ behind l.text (line_len 47 (bytes_of l.text.chars))

abbrev pub decreases-loop-character : goal.decreases-loop-character
decreases-loop-character l = length l.rest.chars
