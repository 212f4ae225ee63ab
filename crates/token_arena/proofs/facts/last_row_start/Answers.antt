use Rattle.std.proofs.Common.{arith}
use Rattle.token_arena.proofs.RowLemmas.{last_row_starts}
use Rattle.token_arena.proofs.facts.last_row_start.Goals as goal

pub returns-else-raw-start-ne10 : goal.returns-else-raw-start-ne10
returns-else-raw-start-ne10 c = last_row_starts c.args.raw.now c.loop-start.start c.loop-start.invariant.within c.loop-start.invariant.in_row (λ _. c.if-raw-start-ne10.false)

pub returns-after-loop-start : goal.returns-after-loop-start
returns-after-loop-start c = last_row_starts c.args.raw.now c.loop-start.start c.loop-start.invariant.within c.loop-start.invariant.in_row (λ some. absurd (omega arith))
