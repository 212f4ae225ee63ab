use Rattle.std.proofs.Common.{sym, ap, ◌∙◌}
use Rattle.line_tokens.specs.declared.LineTok.{LineTok}
use Rattle.view_tokens.proofs.Rows.{in_row, row_token}
use Rattle.view_tokens.proofs.row.RowTokens.id.Goals as goal

pub number-requires : goal.number-requires
number-requires c = (in_row c.self.inside.arena.now c.self.inside.first c.self.inside.apart c.self.inside.marks.now c.self.inside.count c.args.self.now (sym c.self.view_is) c.self.invariant c.args.at c.requires).item

pub returns : goal.returns
returns c = λ d. c.number.ensures.is ∙ sym (ap (λ (t : LineTok). t.id.0) (row_token c.self.inside.arena.now c.self.inside.first c.self.inside.apart c.self.inside.marks.now c.self.inside.count c.args.self.now (sym c.self.view_is) c.self.invariant c.args.at d c.requires))
