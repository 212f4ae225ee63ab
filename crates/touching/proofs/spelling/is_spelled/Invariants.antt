use Rattle.std.proofs.Common.{◌≡◌, drop}
use Rattle.c_chars.specs.Characters.{bytes_of}
use Rattle.c_grammar.specs.Grammar.{is_same}
use Rattle.touching.specs.Spelling.{spelling}
use Rattle.touching.proofs.spelling.is_spelled.Given as goal

abbrev pub invariant-loop-byte : goal.invariant-loop-byte
invariant-loop-byte l = is_same (bytes_of l.chars.chars) (drop l.byte-index l.word) ≡ is_same (spelling l.fn.dialect l.raw) l.word
