use Rattle.std.proofs.Common.{◌≡◌, ◌++◌, map, drop}
use Rattle.token_arena.specs.Segments.{bounds_of}
use Rattle.token_arena.proofs.Parts.{between_of}
use Rattle.token_arena.proofs.view.View.part.Given as goal

abbrev pub invariant-loop-number : goal.invariant-loop-number
invariant-loop-number l = map bounds_of l.stretches.items ++ between_of l.first l.end (drop l.number l.segments) ≡ between_of l.first l.end l.segments
