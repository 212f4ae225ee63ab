use Rattle.std.proofs.Common.{◌<◌, ◌≤◌, ◌-◌, ◌+◌, List, ◌++◌, take}
use Rattle.token_classes.specs.declared.class.TokenClass.{TokenClass}
use Rattle.view_parts.specs.Quiet.{Closes}
use Rattle.view_parts.proofs.ends.closing_len.Given as goal

abbrev pub invariant-loop-count : goal.invariant-loop-count
invariant-loop-count l = record {
  within : l.count ≤ l.most;
  some : 0 < l.depth;
  few : l.depth ≤ l.count + 1;
  on : (rest : List TokenClass) → Closes l.depth rest → Closes 1 (take l.count l.classes ++ rest);
}

abbrev pub decreases-loop-count : goal.decreases-loop-count
decreases-loop-count l = l.most - l.count
