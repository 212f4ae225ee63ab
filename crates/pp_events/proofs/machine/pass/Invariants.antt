use Rattle.std.proofs.Common.{◌≡◌, drop}
use Rattle.pp_events.proofs.machine.pass.Given as goal

abbrev pub invariant-loop : goal.invariant-loop
invariant-loop l = l.rest.items ≡ drop l.counter l.fn.rest.items
