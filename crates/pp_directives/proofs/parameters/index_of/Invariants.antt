use Rattle.std.proofs.Common.{◌≡◌, map, drop}
use Rattle.pp_model.specs.Define.{index_of}
use Rattle.pp_directives.proofs.Indices.{index_from}
use Rattle.pp_directives.proofs.parameters.index_of.Given as goal

abbrev pub invariant-loop-index : goal.invariant-loop-index
invariant-loop-index l = index_from l.index l.name (map (λ n. n.items) (drop l.index l.names)) ≡ index_of l.name (map (λ n. n.items) l.names)
