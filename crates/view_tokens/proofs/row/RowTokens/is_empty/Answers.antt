use Rattle.std.proofs.Common.{sym, ap, ◌==◌}
use Rattle.view_tokens.proofs.Rows.{row_count}
use Rattle.view_tokens.proofs.row.RowTokens.is_empty.Goals as goal

pub returns : goal.returns
returns c = ap (λ n. n == 0) (sym (row_count c.self.inside.arena.now c.self.inside.first c.self.inside.apart c.self.inside.marks.now c.self.inside.count c.args.self.now (sym c.self.view_is) c.self.invariant))
