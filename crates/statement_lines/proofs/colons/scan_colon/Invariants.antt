use Rattle.std.proofs.Common.{◌≡◌, ◌<◌, ◌≤◌, ◌+◌, ◌-◌}
use Rattle.statement_lines.specs.Forms.{case_colon}
use Rattle.statement_lines.proofs.colons.scan_colon.Given as goal

abbrev pub invariant-loop-place : goal.invariant-loop-place
invariant-loop-place l = record {
  same : case_colon (l.end - l.place) l.tokens l.end l.place l.asked ≡ case_colon (l.end - (l.at + 1)) l.tokens l.end (l.at + 1) 0;
  least : l.at < l.place;
  most : l.place ≤ l.end;
  few : l.asked ≤ l.place;
}

abbrev pub decreases-loop-place : goal.decreases-loop-place
decreases-loop-place l = l.end - l.place
