use Rattle.std.proofs.Common.{◌≡◌, map, drop}
use Rattle.pp_model.specs.Token.{is_in}
use Rattle.pp_events.proofs.replace.contains_name.Given as goal

abbrev pub invariant-loop-other : goal.invariant-loop-other
invariant-loop-other l = is_in l.name (map (λ n. n.items) (drop l.other-index l.names)) ≡ is_in l.name (map (λ n. n.items) l.names)
