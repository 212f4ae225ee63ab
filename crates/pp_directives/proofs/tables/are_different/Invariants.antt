use Rattle.std.proofs.Common.{◌≡◌, map, length}
use Rattle.pp_model.specs.Setting.{are_different}
use Rattle.pp_directives.proofs.tables.are_different.Given as goal

abbrev pub invariant-loop-rest : goal.invariant-loop-rest
invariant-loop-rest l = are_different (map (λ n. n.items) l.rest) ≡ are_different (map (λ n. n.items) l.names)

abbrev pub decreases-loop-rest : goal.decreases-loop-rest
decreases-loop-rest l = length l.rest
