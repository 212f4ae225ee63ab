use Rattle.std.proofs.Common.{◌<◌, List, length, subst, arith}
use Rattle.branch_runs.specs.declared.mark.Mark.{Mark}
use Rattle.branch_runs.specs.Anew.{IsChange}
use Rattle.branch_runs.specs.Marks.{marks_of}
use Rattle.branch_runs.specs.Reading.{read, tree_of}
use Rattle.run_parts.proofs.Seen.{seen_within}
use Rattle.run_parts.proofs.change.change_of.Goals as goal

pub returns-clause-behind : goal.returns-clause-behind
returns-clause-behind c = λ later id past sees.
    let arena = c.args.arena.now in
    let number = c.args.number in
    let change = c.change-change.result in
    let is : IsChange (tree_of (marks_of arena)) number change = subst (λ (tree : List Mark). IsChange (read tree) number change) c.requires.tree c.change-change.ensures in
    let within : id < length arena.tokens = subst (λ i. i < length arena.tokens) sees.2 (seen_within arena number sees.0 id sees.1) in
    is.behind id (omega (arith, past, within, c.min.ensures, c.len-items.ensures.count)) sees
