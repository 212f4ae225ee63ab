use Rattle.std.proofs.Common.{◌≡◌, ◌-◌, drop}
use Rattle.directive_layout.specs.Laid.{has_splice}
use Rattle.directive_layout.proofs.laying.has_splice.Given as goal

abbrev pub invariant-loop-place : goal.invariant-loop-place
invariant-loop-place l =
    has_splice (drop l.place l.arena.tokens) (l.fn.end - l.place) ≡ has_splice (drop l.fn.first l.arena.tokens) (l.fn.end - l.fn.first)
