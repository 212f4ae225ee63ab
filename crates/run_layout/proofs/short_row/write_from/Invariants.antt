use Rattle.std.proofs.Common.{◌≡◌, ◌≤◌, ◌-◌, length, drop, get_or}
use Rattle.line_tokens.specs.Tokens.{no_token}
use Rattle.replacements.specs.Decisions.{decided_all}
use Rattle.layout_tables.specs.Told.{group_behind}
use Rattle.run_layout.specs.OneRow.{row_made}
use Rattle.run_layout.proofs.short_row.write_from.Given as goal

abbrev pub invariant-loop-at : goal.invariant-loop-at
invariant-loop-at l = record {
  from : 1 ≤ l.at;
  behind : l.behind ≡ group_behind (get_or l.tokens (l.at - 1) no_token).role;
  len : length l.plan ≡ length l.initial.plan;
  rest : decided_all l.plan (row_made l.style l.column (get_or l.tokens (l.at - 1) no_token) (drop l.at l.tokens)) ≡ decided_all l.initial.plan (row_made l.style l.fn.column (get_or l.tokens (l.first - 1) no_token) (drop l.first l.tokens));
}
