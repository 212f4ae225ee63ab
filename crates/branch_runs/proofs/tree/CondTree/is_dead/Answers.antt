use Rattle.std.proofs.Common.{◌≡◌, ◌∙◌, ◌-◌, ◌+◌, ◌<◌, [], false, length, map, get_or, sym, ap, arith}
use Rattle.branch_runs.specs.Flags.{flags_in}
use Rattle.branch_runs.specs.Links.{node_mark}
use Rattle.branch_runs.specs.Cut.{end_of}
use Rattle.branch_runs.proofs.Places.{flags_dead}
use Rattle.branch_runs.proofs.Within.{flags_length}
use Rattle.branch_runs.proofs.tree.CondTree.is_dead.Goals as goal

pub bounds-self-inside-id : goal.bounds-self-inside-id
bounds-self-inside-id c =
    let marks = map node_mark c.self.inside.nodes.now in
    let count : 0 + length (flags_in [] marks) ≡ end_of 0 marks = flags_length marks [] 0 c.self.invariant.cut in
    let below : c.args.id.0 < end_of 0 marks = rw c.self.view_is c.requires in
    rw c.self.invariant.flags (omega (arith, count, below))

pub returns : goal.returns
returns c =
    let marks = map node_mark c.self.inside.nodes.now in
    let e : c.args.id.0 - 0 ≡ c.args.id.0 = omega arith in
    rw (← c.self.view_is, c.self.invariant.flags)
    (ap (λ k. get_or (flags_in [] marks) k false) (sym e) ∙ flags_dead marks [] 0 c.args.id.0 c.self.invariant.cut (omega arith))
