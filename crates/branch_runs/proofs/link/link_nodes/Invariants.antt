use Rattle.std.proofs.Common.{◌≡◌, ◌≤◌, ◌+◌, ◌*◌, map, length, drop}
use Rattle.branch_runs.specs.Links.{node_mark, total}
use Rattle.branch_runs.specs.Fits.{FitNodes, FitLevels, LevelsFrom, rest_at}
use Rattle.branch_runs.specs.Runs.{need}
use Rattle.branch_runs.proofs.link.link_nodes.Given as goal

abbrev pub invariant-loop-at : goal.invariant-loop-at
invariant-loop-at l = record {
  within : l.at ≤ length l.initial.nodes;
  marks : map node_mark l.nodes ≡ map node_mark l.initial.nodes;
  fit : FitNodes (map node_mark l.initial.nodes) l.at (drop l.at l.nodes);
  need : l.need ≡ need (rest_at (map node_mark l.initial.nodes) l.at).0;
  levels : FitLevels (map node_mark l.initial.nodes) l.levels (rest_at (map node_mark l.initial.nodes) l.at).1;
  from : LevelsFrom l.at l.levels;
  small : total l.need l.levels + 2 * l.at ≤ 2 * length l.initial.nodes + 1;
}

abbrev pub decreases-loop-at : goal.decreases-loop-at
decreases-loop-at l = l.at
