use Rattle.std.proofs.Common.{◌≡◌, drop, nat_eq}
use Rattle.std.specs.List.{starts_with}
use Rattle.c_chars.specs.Characters.{bytes_of}
use Rattle.c_chars.proofs.front.begins_with.Given as goal

abbrev pub invariant-loop-b : goal.invariant-loop-b
invariant-loop-b l = starts_with nat_eq (bytes_of l.rest.chars) (drop l.b-index l.front) ≡ starts_with nat_eq (bytes_of l.text.chars) l.front
