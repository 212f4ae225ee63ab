use Rattle.std.proofs.Common.{arith}
use Rattle.break_search.proofs.straight.go_free.Goals as goal

pub go-requires-clause-cheap : goal.go-requires-clause-cheap
go-requires-clause-cheap c = omega (arith, c.requires.free)

pub returns-clause-next : goal.returns-clause-next
returns-clause-next c = record { leads = c.in_ok-go.ensures; needed = c.in-Some.ensures.needed }

pub returns-clause-free : goal.returns-clause-free
returns-clause-free c = omega (arith, c.if-state-gt0.false)
