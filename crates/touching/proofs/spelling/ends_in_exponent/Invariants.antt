use Rattle.std.proofs.Common.{◌≡◌, false, length}
use Rattle.c_chars.specs.Characters.{bytes_of}
use Rattle.c_grammar.specs.Grammar.{is_exponent}
use Rattle.touching.specs.Spelling.{spelling}
use Rattle.touching.proofs.Ends.{ends_after}
use Rattle.touching.proofs.spelling.ends_in_exponent.Given as goal

abbrev pub invariant-loop-character : goal.invariant-loop-character
invariant-loop-character l = ends_after is_exponent l.last (bytes_of l.chars.chars) ≡ ends_after is_exponent false (spelling l.fn.dialect l.raw)

abbrev pub decreases-loop-character : goal.decreases-loop-character
decreases-loop-character l = length l.chars.chars
