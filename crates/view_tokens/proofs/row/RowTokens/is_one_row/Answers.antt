use Rattle.std.proofs.Common.{sym, ap, ◌∙◌}
use Rattle.line_tokens.specs.declared.LineTok.{LineTok}
use Rattle.item_classes.specs.Items.{item_at, no_item}
use Rattle.view_tokens.proofs.Rows.{in_row, row_token}
use Rattle.view_tokens.proofs.row.RowTokens.is_one_row.Goals as goal

pub number-requires : goal.number-requires
number-requires c = (in_row c.self.inside.arena.now c.self.inside.first c.self.inside.apart c.self.inside.marks.now c.self.inside.count c.args.self.now (sym c.self.view_is) c.self.invariant c.args.at c.requires).item

pub returns-clause-rows : goal.returns-clause-rows
returns-clause-rows c =
    λ d one. ap (λ (t : LineTok). t.rows) (row_token c.self.inside.arena.now c.self.inside.first c.self.inside.apart c.self.inside.marks.now c.self.inside.count c.args.self.now (sym c.self.view_is) c.self.invariant c.args.at d c.requires) ∙ (sym (ap (λ i. (item_at c.self.inside.arena.now i).rows) c.number.ensures.is) ∙ c.is_one_row.ensures.count no_item one)

pub returns-clause-width : goal.returns-clause-width
returns-clause-width c =
    λ d one. ap (λ (t : LineTok). t.first_width) (row_token c.self.inside.arena.now c.self.inside.first c.self.inside.apart c.self.inside.marks.now c.self.inside.count c.args.self.now (sym c.self.view_is) c.self.invariant c.args.at d c.requires) ∙ (sym (ap (λ i. (item_at c.self.inside.arena.now i).first_width) c.number.ensures.is) ∙ (c.is_one_row.ensures.first no_item one
    ∙ (sym (c.is_one_row.ensures.last no_item one) ∙ (ap (λ i. (item_at c.self.inside.arena.now i).last_width) c.number.ensures.is ∙ sym (ap (λ (t : LineTok). t.last_width) (row_token c.self.inside.arena.now c.self.inside.first c.self.inside.apart c.self.inside.marks.now c.self.inside.count c.args.self.now (sym c.self.view_is) c.self.invariant c.args.at d c.requires))))))
