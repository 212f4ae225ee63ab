use Rattle.std.proofs.Common.{arith, refl}
use Rattle.branch_runs.proofs.Linked.{turn}
use Rattle.branch_runs.proofs.link.link_nodes.Goals as goal

pub loop-at-preserved : goal.loop-at-preserved
loop-at-preserved c =
    let v = c.loop-at.invariant in
    let right = turn c.args.nodes.now c.loop-at.nodes _ c.loop-at.at c.loop-at.need c.in_ok-need.need c.loop-at.levels c.link.new.levels c.peek_level-level.result _ c.loop-at-test.true v.within v.marks (record { nodes_fit = v.fit; need_is = v.need; levels_fit = v.levels; from = v.from }) c.peek_level-level.ensures refl c.in_ok-need.ensures v.small in
    record {
      within = omega (arith, v.within);
      marks = right.marks_are;
      fit = right.right.nodes_fit;
      need = right.right.need_is;
      levels = right.right.levels_fit;
      from = right.right.from;
      small = right.small;
    }
