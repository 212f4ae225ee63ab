use Rattle.std.proofs.Common.{◌≡◌, ◌≤◌, ◌++◌, List, drop}
use Rattle.line_tokens.specs.declared.LineTok.{LineTok}
use Rattle.comment_rows.specs.Comments.{is_next}
use Rattle.comment_rows.proofs.rows.next_among.Given as goal

abbrev pub invariant-loop-at : goal.invariant-loop-at
invariant-loop-at l = record {
  short : l.ended ≤ 1;
  rest : (later : List LineTok) → is_next l.plan l.ended (drop l.at l.row ++ later) ≡ is_next l.plan l.initial.ended (l.row ++ later);
}
