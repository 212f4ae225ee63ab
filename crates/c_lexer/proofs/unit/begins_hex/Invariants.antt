use Rattle.std.proofs.Common.{◌≡◌, ◌-◌, ◌≤◌, drop}
use Rattle.c_chars.specs.Characters.{bytes_of}
use Rattle.c_lexer.specs.Unit.{begins_hex}
use Rattle.c_lexer.proofs.unit.begins_hex.Given as goal

abbrev pub invariant-loop-index : goal.invariant-loop-index
invariant-loop-index l = (l.index ≤ l.count) × (begins_hex (l.count - l.index) (drop l.index (bytes_of l.text.chars)) ≡ begins_hex l.count (bytes_of l.text.chars))
