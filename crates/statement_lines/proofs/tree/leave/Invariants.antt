use Rattle.std.proofs.Common.{◌≡◌, ◌≤◌, reverse, length}
use Rattle.statement_lines.specs.Stack.{left}
use Rattle.statement_lines.proofs.tree.leave.Given as goal

abbrev pub invariant-loop-innermost : goal.invariant-loop-innermost
invariant-loop-innermost l = record {
  same : left (reverse l.stack.items) ≡ left (reverse l.initial.stack.items);
  fewer : length l.stack.items ≤ length l.initial.stack.items;
}

abbrev pub decreases-loop-innermost : goal.decreases-loop-innermost
decreases-loop-innermost l = goal.left-loop-innermost l
