use Rattle.std.proofs.Common.{◌*◌, ◌+◌, ◌-◌, reverse, length}
use Rattle.statement_lines.specs.Stack.{Stands}
use Rattle.statement_lines.proofs.tree.tree_lines.Given as goal

abbrev pub invariant-loop-opened : goal.invariant-loop-opened
invariant-loop-opened l = Stands l.braces l.tokens l.out (reverse l.stack.items) l.place.start l.place.at

abbrev pub decreases-loop-opened : goal.decreases-loop-opened
decreases-loop-opened l = 2 * (length l.tokens - l.place.at) + length l.stack.items
