use Rattle.std.proofs.Common.{◌≡◌, ◌≤◌, length, take}
use Rattle.c_chars.specs.Characters.{bytes_of}
use Rattle.c_lexer.proofs.utf8.char_of.Given as goal

abbrev pub invariant-loop-index : goal.invariant-loop-index
invariant-loop-index l = (l.index ≤ length l.text.chars) × (take l.index l.bytes ≡ take l.index (bytes_of l.text.chars)) × (length l.bytes ≡ 4)
