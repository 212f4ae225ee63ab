use Rattle.std.proofs.Common.{◌≡◌, ◌-◌, ◌++◌, map, length}
use Rattle.branch_runs.specs.Links.{node_mark}
use Rattle.branch_runs.specs.Fits.{rest_at}
use Rattle.branch_runs.specs.Seen.{seen_texts, seen_left, FitPlace}
use Rattle.branch_runs.proofs.seen.seen_texts.Given as goal

abbrev pub invariant-loop-place : goal.invariant-loop-place
invariant-loop-place l = record {
  left : l.texts.items ++ seen_left (rest_at (map node_mark l.nodes) l.place.at) l.place.from l.place.till l.slots ≡ seen_texts (rest_at (map node_mark l.nodes) 0).0 0 l.runs;
  fits : FitPlace (rest_at (map node_mark l.nodes) l.place.at) l.place l.slots;
}

abbrev pub decreases-loop-place : goal.decreases-loop-place
decreases-loop-place l = length l.nodes - l.place.at
