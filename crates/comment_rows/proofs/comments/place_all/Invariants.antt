use Rattle.std.proofs.Common.{◌≡◌, length, drop}
use Rattle.replacements.specs.Decisions.{decided_all}
use Rattle.comment_rows.specs.Comments.{placed}
use Rattle.comment_rows.proofs.comments.place_all.Given as goal

abbrev pub invariant-loop-at : goal.invariant-loop-at
invariant-loop-at l = record {
  len : length l.plan ≡ length l.initial.plan;
  rest : decided_all l.plan (placed (drop l.at l.comments) (drop l.at l.rows)) ≡ decided_all l.initial.plan (placed l.comments l.rows);
}
