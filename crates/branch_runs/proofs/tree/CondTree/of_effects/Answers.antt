use Rattle.std.proofs.Common.{map}
use Rattle.branch_runs.specs.Links.{node_mark}
use Rattle.branch_runs.proofs.Kept.{small_linked, keeps}
use Rattle.branch_runs.proofs.tree.CondTree.of_effects.Goals as goal

pub link_nodes-requires : goal.link_nodes-requires
link_nodes-requires c = c.requires.small

pub invariant_of-result : goal.invariant_of-result
invariant_of-result c =
    let nodes = c.in_ok-nodes in
    let k = keeps nodes.nodes.now nodes.count (map node_mark c.args.nodes.now) nodes.ensures.marks nodes.ensures.fit nodes.ensures.need in
    record {
      fit = k.fit;
      need_is = k.need_is;
      small = small_linked nodes.nodes.now c.args.nodes.now _ nodes.ensures.marks c.requires.small;
      cut = rw nodes.ensures.marks c.requires.cut;
      flags = rw nodes.ensures.marks c.requires.dead;
      texts_are = rw c.in_ok-texts-2.ensures c.in_ok-texts.ensures.texts;
      ascend = rw c.in_ok-texts-2.ensures c.in_ok-texts.ensures.ascend;
      each_run = c.in_ok-changes.ensures.count;
      noted = rw c.in_ok-texts-2.ensures c.in_ok-changes.ensures.noted;
      narrow = rw c.in_ok-texts-2.ensures c.in_ok-changes.ensures.narrow;
    }

pub seen_texts-requires-clause-small : goal.seen_texts-requires-clause-small
seen_texts-requires-clause-small c = small_linked c.in_ok-nodes.nodes.now c.args.nodes.now _ c.in_ok-nodes.ensures.marks c.requires.small

pub seen_texts-requires-clause-cut : goal.seen_texts-requires-clause-cut
seen_texts-requires-clause-cut c = rw c.in_ok-nodes.ensures.marks c.requires.cut
