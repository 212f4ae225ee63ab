use Rattle.std.proofs.Common.{◌≡◌, ◌≤◌, reverse, length}
use Rattle.statement_lines.specs.Tree.{settled}
use Rattle.statement_lines.proofs.tree.settle.Given as goal

abbrev pub invariant-loop-innermost : goal.invariant-loop-innermost
invariant-loop-innermost l = record {
  same : settled l.tokens l.at (reverse l.stack.items) ≡ settled l.tokens l.at (reverse l.initial.stack.items);
  fewer : length l.stack.items ≤ length l.initial.stack.items;
}

abbrev pub decreases-loop-innermost : goal.decreases-loop-innermost
decreases-loop-innermost l = length l.stack.items
