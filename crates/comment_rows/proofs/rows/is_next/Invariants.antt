use Rattle.std.proofs.Common.{◌≡◌, ◌≤◌, ◌-◌, drop, length}
use Rattle.comment_rows.specs.Comments.{is_next}
use Rattle.comment_rows.proofs.rows.is_next.Given as goal

abbrev pub invariant-loop-place : goal.invariant-loop-place
invariant-loop-place l = record {
  short : l.ended ≤ 1;
  within : l.place ≤ length l.tokens;
  rest : is_next l.plan l.ended (drop l.place l.tokens) ≡ is_next l.plan 0 (drop l.first l.tokens);
}

abbrev pub decreases-loop-place : goal.decreases-loop-place
decreases-loop-place l = length l.tokens - l.place
