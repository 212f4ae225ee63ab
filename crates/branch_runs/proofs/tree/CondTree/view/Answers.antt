use Rattle.std.proofs.Common.{◌≡◌, List, map, ap, subst}
use Rattle.std.specs.Prelude.{IfOk}
use Rattle.branch_runs.specs.declared.mark.Mark.{Mark}
use Rattle.branch_runs.specs.Links.{node_mark}
use Rattle.branch_runs.specs.Reading.{read}
use Rattle.branch_runs.specs.Runs.{view_of}
use Rattle.branch_runs.specs.Anew.{items_between}
use Rattle.branch_runs.proofs.Within.{view_within}
use Rattle.branch_runs.proofs.Between.{between_all}
use Rattle.branch_runs.proofs.tree.CondTree.view.Goals as goal

pub returns-clause-view : goal.returns-clause-view
returns-clause-view c =
    let marks = map node_mark c.self.inside.nodes.now in
    let view = view_of (read marks) c.args.number in
    let all : items_between 0 c.end_of.result view ≡ view = rw c.end_of.ensures (between_all _ view (view_within marks c.args.number c.self.invariant.cut)) in
    let is : view ≡ view_of (read c.args.self.now) c.args.number = ap (λ (marks : List Mark). view_of (read marks) c.args.number) c.self.view_is in
    subst (λ xs. IfOk c.view_between.result (λ v. v ≡ xs)) (subst (λ xs. items_between 0 c.end_of.result xs ≡ xs) is all) c.view_between.ensures.view
