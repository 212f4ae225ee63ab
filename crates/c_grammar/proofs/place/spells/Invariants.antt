use Rattle.std.proofs.Common.{◌≡◌, ◌-◌, drop, length, nat_eq}
use Rattle.std.specs.List.{starts_with}
use Rattle.c_chars.specs.Characters.{bytes_of}
use Rattle.c_chars.specs.Coming.{behind}
use Rattle.c_grammar.proofs.place.spells.Given as goal

abbrev pub invariant-loop-byte : goal.invariant-loop-byte
invariant-loop-byte l =
    (starts_with nat_eq (bytes_of l.rest.chars) (drop l.byte-index l.word) ≡ starts_with nat_eq (bytes_of l.text.chars) l.word)
    × (behind l.rest (length l.word - l.byte-index) ≡ behind l.text (length l.word))
