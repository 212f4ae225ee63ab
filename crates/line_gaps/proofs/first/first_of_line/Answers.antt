use Rattle.std.proofs.Common.{◌∙◌, ap}
use Rattle.line_tokens.specs.declared.role.Role.{Role}
use Rattle.line_gaps.specs.Rows.{row_token}
use Rattle.line_gaps.proofs.FirstRows.{row_behind}
use Rattle.line_gaps.proofs.first.first_of_line.Goals as goal

pub returns : goal.returns
returns c =
    row_behind c.args.style.now c.args.arena.now c.args.line.now c.args.opened c.args.class c.args.id c.empty_rows.result c.start_column.result c.row_token-token.result c.if-id-eq0.false
    (c.row_token-token.ensures ∙ ap (λ (role : Role). row_token c.args.arena.now c.args.id role) c.first_role.ensures) c.empty_rows.ensures c.start_column.ensures
