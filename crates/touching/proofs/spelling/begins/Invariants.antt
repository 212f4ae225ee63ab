use Rattle.std.proofs.Common.{◌≡◌, ◌++◌, drop}
use Rattle.std.specs.Option.{option_to_list}
use Rattle.c_chars.specs.Characters.{bytes_of}
use Rattle.c_grammar.specs.Touch.{is_front}
use Rattle.touching.specs.Spelling.{spelling}
use Rattle.touching.proofs.spelling.begins.Given as goal

abbrev pub invariant-loop-byte : goal.invariant-loop-byte
invariant-loop-byte l = is_front (bytes_of l.chars.chars ++ option_to_list l.right) (drop l.byte-index l.word) ≡ is_front (spelling l.fn.dialect l.raw ++ option_to_list l.right) l.word
