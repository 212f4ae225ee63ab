use Rattle.std.proofs.Common.{◌≡◌, ◌≤◌, ◌-◌, ◌∷◌, reverse}
use Rattle.statement_lines.specs.Stack.{Stands}
use Rattle.statement_lines.proofs.tree.turn.Given as goal

abbrev pub invariant-loop-place : goal.invariant-loop-place
invariant-loop-place l = record {
  stands : Stands l.braces l.tokens l.out (l.opened ∷ reverse l.stack.items) l.place.start l.place.at;
  same : l.stack.items ≡ l.initial.stack.items;
  up : l.fn.from.at ≤ l.place.at;
}

abbrev pub decreases-loop-place : goal.decreases-loop-place
decreases-loop-place l = l.opened.end - l.place.at
