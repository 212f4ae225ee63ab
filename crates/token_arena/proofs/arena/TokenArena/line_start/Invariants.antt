use Rattle.std.proofs.Common.{◌≤◌}
use Rattle.token_arena.proofs.arena.TokenArena.line_start.Given as goal

abbrev pub invariant-loop-start : goal.invariant-loop-start
invariant-loop-start l = record {
  from : l.from ≤ l.start;
  most : l.start ≤ l.at;
}

abbrev pub decreases-loop-start : goal.decreases-loop-start
decreases-loop-start l = l.start
