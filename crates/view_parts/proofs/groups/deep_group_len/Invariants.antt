use Rattle.std.proofs.Common.{◌≤◌, ◌<◌, ◌-◌, ◌+◌, List, ◌∷◌, [], ◌++◌, length, take}
use Rattle.token_classes.specs.declared.class.TokenClass.{TokenClass}
use Rattle.view_parts.specs.Quiet.{ClosesGroup, kinds_in}
use Rattle.view_parts.proofs.groups.deep_group_len.Given as goal

abbrev pub invariant-loop-count : goal.invariant-loop-count
invariant-loop-count l = record {
  within : l.count ≤ l.most;
  some : 0 < length (kinds_in l.kinds);
  few : l.kinds.rounds ≤ l.count + 1;
  on : (rest : List TokenClass) → ClosesGroup (kinds_in l.kinds) rest → ClosesGroup (l.fn.opener ∷ []) (take l.count l.classes ++ rest);
}

abbrev pub decreases-loop-count : goal.decreases-loop-count
decreases-loop-count l = l.most - l.count
