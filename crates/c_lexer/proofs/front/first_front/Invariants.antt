use Rattle.std.proofs.Common.{◌≡◌, drop, map}
use Rattle.c_chars.specs.Characters.{bytes_of}
use Rattle.c_lexer.specs.Run.{first_front}
use Rattle.c_lexer.proofs.front.first_front.Given as goal

abbrev pub invariant-loop-entry : goal.invariant-loop-entry
invariant-loop-entry l = first_front (drop l.entry-index (map (λ p. p.now) l.table)) (bytes_of l.text.chars) ≡ first_front (map (λ p. p.now) l.table) (bytes_of l.text.chars)
