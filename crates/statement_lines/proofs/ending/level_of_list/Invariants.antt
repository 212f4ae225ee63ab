use Rattle.std.proofs.Common.{◌≡◌, reverse, take}
use Rattle.statement_lines.specs.Tree.{level_of_list}
use Rattle.statement_lines.proofs.ending.level_of_list.Given as goal

abbrev pub invariant-loop-depth : goal.invariant-loop-depth
invariant-loop-depth l = level_of_list (reverse (take l.depth l.below)) ≡ level_of_list (reverse l.below)
