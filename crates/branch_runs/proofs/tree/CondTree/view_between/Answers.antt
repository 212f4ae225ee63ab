use Rattle.std.proofs.Common.{◌≡◌, ◌<◌, map}
use Rattle.branch_runs.specs.Links.{node_mark}
use Rattle.branch_runs.specs.Reading.{read}
use Rattle.branch_runs.specs.Cut.{end_of}
use Rattle.branch_runs.specs.Runs.{texts}
use Rattle.branch_runs.specs.Seen.{taken}
use Rattle.branch_runs.proofs.Order.{texts_ascend}
use Rattle.branch_runs.proofs.Within.{view_within}
use Rattle.branch_runs.proofs.Taken.{are_texts}
use Rattle.branch_runs.proofs.Inside.{inside-ascend, ids-inside, inside_all}
use Rattle.branch_runs.proofs.tree.CondTree.view_between.Goals as goal

pub stretches_between-requires : goal.stretches_between-requires
stretches_between-requires c = c.self.invariant.ascend

pub of_stretches-requires : goal.of_stretches-requires
of_stretches-requires c =
    let i = c.self.inside in
    let marks = map node_mark i.nodes.now in
    let t = texts (read marks) c.args.number in
    let are : taken i.texts c.args.number ≡ t = are_texts (read marks) i.count c.args.number i.texts c.self.invariant.texts_are c.self.invariant.need_is (rw c.self.view_is c.requires) in
    rw (c.in_ok-stretches.ensures, are) (inside-ascend c.args.first c.args.end 0 t (texts_ascend marks c.args.number c.self.invariant.cut))

pub returns-clause-view : goal.returns-clause-view
returns-clause-view c =
    let i = c.self.inside in
    let marks = map node_mark i.nodes.now in
    let t = texts (read marks) c.args.number in
    let are : taken i.texts c.args.number ≡ t = are_texts (read marks) i.count c.args.number i.texts c.self.invariant.texts_are c.self.invariant.need_is (rw c.self.view_is c.requires) in
    rw (c.in_ok-view.ensures.items, c.in_ok-stretches.ensures, are, ← c.self.view_is) (ids-inside c.args.first c.args.end t)

pub returns-clause-within : goal.returns-clause-within
returns-clause-within c =
    let i = c.self.inside in
    let marks = map node_mark i.nodes.now in
    let t = texts (read marks) c.args.number in
    let are : taken i.texts c.args.number ≡ t = are_texts (read marks) i.count c.args.number i.texts c.self.invariant.texts_are c.self.invariant.need_is (rw c.self.view_is c.requires) in
    rw (c.in_ok-view.ensures.items, c.in_ok-stretches.ensures, are, ← c.self.view_is)
    (inside_all (λ id. id < end_of 0 marks) c.args.first c.args.end t (view_within marks c.args.number c.self.invariant.cut))
