use Rattle.std.proofs.Common.{sym, ap, ◌∙◌}
use Rattle.line_tokens.specs.declared.LineTok.{LineTok}
use Rattle.view_tokens.proofs.Rows.{first_apart, row_token}
use Rattle.view_tokens.proofs.row.RowTokens.is_behind_directive.Goals as goal

pub returns : goal.returns
returns c = λ d.
    c.is_apart.ensures
    ∙ (first_apart c.self.inside.apart c.args.at
    ∙ sym (ap (λ (t : LineTok). t.directive) (row_token c.self.inside.arena.now c.self.inside.first c.self.inside.apart c.self.inside.marks.now c.self.inside.count c.args.self.now (sym c.self.view_is) c.self.invariant c.args.at d c.requires)))
