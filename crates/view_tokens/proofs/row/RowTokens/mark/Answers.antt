use Rattle.std.proofs.Common.{sym, ap}
use Rattle.line_tokens.specs.declared.LineTok.{LineTok}
use Rattle.view_tokens.proofs.Rows.{in_row, row_marked}
use Rattle.view_tokens.proofs.row.RowTokens.mark.Goals as goal

pub mark_at-requires : goal.mark_at-requires
mark_at-requires c = (in_row c.self.inside.arena.now c.self.inside.first c.self.inside.apart c.self.inside.marks.now c.self.inside.count c.args.self.now (sym c.self.view_is) c.self.invariant c.args.at c.requires).told

pub returns-clause-role : goal.returns-clause-role
returns-clause-role c = λ d. sym (ap (λ (t : LineTok). t.role) (row_marked c.self.inside.arena.now c.self.inside.first c.self.inside.apart c.self.inside.marks.now c.self.inside.count c.args.self.now (sym c.self.view_is) c.self.invariant c.args.at d c.mark_at.result.now c.requires c.mark_at.ensures))

pub returns-clause-depth : goal.returns-clause-depth
returns-clause-depth c = λ d. sym (ap (λ (t : LineTok). t.depth) (row_marked c.self.inside.arena.now c.self.inside.first c.self.inside.apart c.self.inside.marks.now c.self.inside.count c.args.self.now (sym c.self.view_is) c.self.invariant c.args.at d c.mark_at.result.now c.requires c.mark_at.ensures))

pub returns-clause-list : goal.returns-clause-list
returns-clause-list c = λ d. sym (ap (λ (t : LineTok). t.trailing_list) (row_marked c.self.inside.arena.now c.self.inside.first c.self.inside.apart c.self.inside.marks.now c.self.inside.count c.args.self.now (sym c.self.view_is) c.self.invariant c.args.at d c.mark_at.result.now c.requires c.mark_at.ensures))
