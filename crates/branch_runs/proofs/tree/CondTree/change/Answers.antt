use Rattle.std.proofs.Common.{◌≡◌, ◌∙◌, ◌<◌, map, length, subst}
use Rattle.std.proofs.lemmas.List.{get_or_default}
use Rattle.branch_runs.specs.Links.{node_mark}
use Rattle.branch_runs.specs.Reading.{read}
use Rattle.branch_runs.specs.Runs.{need}
use Rattle.branch_runs.specs.Seen.{seen_texts}
use Rattle.branch_runs.specs.Anew.{IsChange, no_change}
use Rattle.branch_runs.proofs.Differ.{is_change}
use Rattle.branch_runs.proofs.tree.CondTree.change.Goals as goal

pub returns : goal.returns
returns c =
    let i = c.self.inside in
    let group = read (map node_mark i.nodes.now) in
    let below : c.args.number < need group = rw c.self.view_is c.requires.run in
    let count : length i.changes.now ≡ need group = c.self.invariant.each_run ∙ c.self.invariant.need_is in
    let texts : i.texts ≡ seen_texts group 0 (need group) = subst (λ n. i.texts ≡ seen_texts group 0 n) c.self.invariant.need_is c.self.invariant.texts_are in
    let within : c.args.number < length i.changes.now = rw count below in
    let d = get_or_default i.changes.now c.args.number no_change (record { first = 0; end = 0 }) within in
    rw (← c.self.view_is) (subst (λ x. IsChange group c.args.number x) d (is_change group i.changes.now i.texts c.args.number texts c.self.invariant.ascend c.self.invariant.noted c.self.invariant.narrow c.requires.later below count))
