use Rattle.std.proofs.Common.{arith}
use Rattle.token_arena.proofs.RowLemmas.{first_row_ends}
use Rattle.token_arena.proofs.facts.first_row_end.Goals as goal

pub returns-then-b-eq10 : goal.returns-then-b-eq10
returns-then-b-eq10 c = first_row_ends c.args.raw.now c.loop-i.i (omega arith) c.loop-i.invariant (λ _. c.if-b-eq10.true)

pub returns : goal.returns
returns c = first_row_ends c.args.raw.now _ (omega arith) (λ k below. c.loop-i.invariant k (omega arith)) (λ below. absurd (omega arith))
