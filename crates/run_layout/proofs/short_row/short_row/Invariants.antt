use Rattle.std.proofs.Common.{◌+◌, false, get_or, ◌≡◌, ◌≤◌, ◌<◌, ◌-◌, ◌*◌, ℕ, Some, None, slice_get}
use Rattle.line_tokens.specs.declared.LineTok.{LineTok}
use Rattle.replacements.specs.Decisions.{slot_of}
use Rattle.line_state.specs.Line.{Line, first_cost}
use Rattle.line_tokens.specs.Columns.{end_of}
use Rattle.line_tokens.specs.Roles.{is_trailing}
use Rattle.line_tokens.specs.Tokens.{no_token}
use Rattle.run_layout.specs.OneRow.{IsOneRowUpTo, IsRowLine, width_to}
use Rattle.run_layout.proofs.short_row.short_row.Given as goal

abbrev pub invariant-loop-at : goal.invariant-loop-at
invariant-loop-at l = record {
  from : 1 ≤ l.at;
  kind : l.kind ≡ (get_or l.tokens (l.at - 1) no_token).kind;
  few : l.least ≤ (l.at + 1) * 4294967296;
  row : (line : Line) → IsRowLine line l.style l.fn.column l.tokens None → l.least + (l.at - 1) ≤ l.style.column_limit → IsOneRowUpTo line (l.at - 1) (l.least + (l.at - 1));
  inside : (i : ℕ) (token : LineTok) → 0 < i → i < l.at → slice_get l.tokens i ≡ Some token → slot_of l.plan token.id.0 ≡ None;
  stand : (i : ℕ) (token : LineTok) → 0 < i → i < l.at → slice_get l.tokens i ≡ Some token → is_trailing token.role ≡ false;
  widths : end_of (get_or l.tokens 0 no_token) l.fn.column + width_to l.tokens (l.at - 1) ≤ l.least + (l.at - 1);
  first : l.fn.column + (get_or l.tokens 0 no_token).first_width ≤ l.least;
  free : (line : Line) → IsRowLine line l.style l.fn.column l.tokens None → l.fn.column + (get_or l.tokens 0 no_token).first_width ≤ l.style.column_limit → first_cost line ≡ 0;
}
