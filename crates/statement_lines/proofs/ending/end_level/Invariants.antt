use Rattle.std.proofs.Common.{◌-◌, reverse, length}
use Rattle.statement_lines.specs.Stack.{LeadsToEnd}
use Rattle.statement_lines.proofs.ending.end_level.Given as goal

abbrev pub invariant-loop-opened : goal.invariant-loop-opened
invariant-loop-opened l = LeadsToEnd l.braces l.tokens (reverse l.stack.items) l.place.start l.place.at

abbrev pub decreases-loop-opened : goal.decreases-loop-opened
decreases-loop-opened l = length l.tokens - l.place.at
