use Rattle.std.proofs.Common.{sym, ap, ◌∙◌}
use Rattle.line_tokens.specs.declared.LineTok.{LineTok}
use Rattle.token_arena.specs.Stored.{Stored}
use Rattle.item_classes.specs.Items.{item_at}
use Rattle.view_tokens.proofs.Rows.{in_row, row_token}
use Rattle.view_tokens.proofs.row.RowTokens.item.Goals as goal

pub number-requires : goal.number-requires
number-requires c = (in_row c.self.inside.arena.now c.self.inside.first c.self.inside.apart c.self.inside.marks.now c.self.inside.count c.args.self.now (sym c.self.view_is) c.self.invariant c.args.at c.requires).item

pub returns-clause-kind : goal.returns-clause-kind
returns-clause-kind c =
    λ d. ap (λ (t : Stored). t.kind) c.item.ensures ∙ (ap (λ i. (item_at c.self.inside.arena.now i).kind) c.number.ensures.is ∙ sym (ap (λ (t : LineTok). t.kind) (row_token c.self.inside.arena.now c.self.inside.first c.self.inside.apart c.self.inside.marks.now c.self.inside.count c.args.self.now (sym c.self.view_is) c.self.invariant c.args.at d c.requires)))

pub returns-clause-gap : goal.returns-clause-gap
returns-clause-gap c =
    λ d. ap (λ (t : Stored). t.gap) c.item.ensures ∙ (ap (λ i. (item_at c.self.inside.arena.now i).gap) c.number.ensures.is ∙ sym (ap (λ (t : LineTok). t.gap) (row_token c.self.inside.arena.now c.self.inside.first c.self.inside.apart c.self.inside.marks.now c.self.inside.count c.args.self.now (sym c.self.view_is) c.self.invariant c.args.at d c.requires)))
