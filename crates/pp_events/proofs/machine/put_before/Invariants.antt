use Rattle.std.proofs.Common.{◌≡◌, ◌++◌, length}
use Rattle.pp_events.proofs.machine.put_before.Given as goal

abbrev pub invariant-loop-token : goal.invariant-loop-token
invariant-loop-token l = l.tokens.items ++ l.rest.items ≡ l.fn.tokens.items ++ l.fn.rest.items

abbrev pub decreases-loop-token : goal.decreases-loop-token
decreases-loop-token l = length l.tokens.items
