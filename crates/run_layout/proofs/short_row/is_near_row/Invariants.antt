use Rattle.std.proofs.Common.{get_or, ◌≡◌, ◌≤◌, ◌-◌}
use Rattle.std.specs.Prelude.{None}
use Rattle.line_state.specs.Line.{Line, first_cost}
use Rattle.line_tokens.specs.Tokens.{no_token}
use Rattle.layout_tables.specs.Told.{group_behind}
use Rattle.run_layout.specs.OneRow.{IsRowLine}
use Rattle.run_layout.proofs.NearRows.{IsRowTo}
use Rattle.run_layout.proofs.short_row.is_near_row.Given as goal

abbrev pub invariant-loop-at : goal.invariant-loop-at
invariant-loop-at l = record {
  from : 1 ≤ l.at;
  kind : l.kind ≡ (get_or l.tokens (l.at - 1) no_token).kind;
  behind : l.behind ≡ group_behind (get_or l.tokens (l.at - 1) no_token).role;
  row : (line : Line) → IsRowLine line l.style l.fn.column l.tokens None → IsRowTo line (l.at - 1) l.end;
  free : (line : Line) → IsRowLine line l.style l.fn.column l.tokens None → first_cost line ≡ 0;
}
