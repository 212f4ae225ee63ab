use Rattle.std.proofs.Common.{◌≡◌, ℕ, ◌≤◌, ◌-◌}
use Rattle.statement_lines.specs.Forms.{statement_stop}
use Rattle.statement_lines.proofs.scans.statement_stop.Given as goal

abbrev pub invariant-loop-place : goal.invariant-loop-place
invariant-loop-place l = record {
  same : (n : ℕ) × ((l.end - l.place ≤ n) × (statement_stop n l.tokens l.end l.place l.assigned ≡ statement_stop (l.end - l.from) l.tokens l.end l.from l.fn.assigned));
  least : l.from ≤ l.place;
  most : l.place ≤ l.end;
}

abbrev pub decreases-loop-place : goal.decreases-loop-place
decreases-loop-place l = l.end - l.place
