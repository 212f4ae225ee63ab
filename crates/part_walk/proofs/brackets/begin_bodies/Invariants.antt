use Rattle.std.proofs.Common.{◌≡◌, take}
use Rattle.part_walk.specs.Brackets.{braces_of}
use Rattle.part_walk.proofs.brackets.begin_bodies.Given as goal

abbrev pub invariant-loop : goal.invariant-loop
invariant-loop l = l.waiting.items ≡ braces_of (take l.index l.items)
