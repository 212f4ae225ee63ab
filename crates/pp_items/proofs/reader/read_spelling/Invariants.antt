use Rattle.std.proofs.Common.{◌≡◌, ◌++◌, length}
use Rattle.c_chars.specs.Characters.{bytes_of}
use Rattle.pp_items.specs.Walk.{before, past}
use Rattle.pp_items.proofs.reader.read_spelling.Given as goal

abbrev pub invariant-loop-character : goal.invariant-loop-character
invariant-loop-character l = record {
  text : l.text.items ++ bytes_of (before l.end l.chars.chars) ≡ bytes_of (before l.end l.initial.chars.chars);
  rest : past l.end l.chars.chars ≡ past l.end l.initial.chars.chars;
}

abbrev pub decreases-loop-character : goal.decreases-loop-character
decreases-loop-character l = length l.chars.chars
