use Rattle.std.proofs.Common.{◌≡◌, ◌++◌, map, drop}
use Rattle.pp_model.specs.Token.{common}
use Rattle.pp_events.proofs.replace.common_names.Given as goal

abbrev pub invariant-loop-name : goal.invariant-loop-name
invariant-loop-name l = map (λ n. n.items) l.out.items ++ common (map (λ n. n.items) (drop l.name-index l.left)) (map (λ n. n.items) l.right) ≡ common (map (λ n. n.items) l.left) (map (λ n. n.items) l.right)
