use Rattle.std.proofs.Common.{◌≡◌, ℕ, ◌≤◌, ◌-◌}
use Rattle.statement_lines.specs.Forms.{enumerator_end}
use Rattle.statement_lines.proofs.scans.enumerator_end.Given as goal

abbrev pub invariant-loop-place : goal.invariant-loop-place
invariant-loop-place l = record {
  same : (n : ℕ) × ((l.end - l.place ≤ n) × (enumerator_end n l.tokens l.end l.place ≡ enumerator_end (l.end - l.at) l.tokens l.end l.at));
  least : l.at ≤ l.place;
  most : l.place ≤ l.end;
}

abbrev pub decreases-loop-place : goal.decreases-loop-place
decreases-loop-place l = l.end - l.place
