use Rattle.std.proofs.Common.{◌≡◌, ◌++◌, map, take}
use Rattle.pp_events.proofs.copy.add_names.Given as goal

abbrev pub invariant-loop-name : goal.invariant-loop-name
invariant-loop-name l = map (λ n. n.items) l.out.items ≡ map (λ n. n.items) l.fn.out.items ++ map (λ n. n.items) (take l.name-index l.names)
