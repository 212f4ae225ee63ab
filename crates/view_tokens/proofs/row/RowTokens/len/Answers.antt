use Rattle.std.proofs.Common.{sym}
use Rattle.view_tokens.proofs.Rows.{row_count}
use Rattle.view_tokens.proofs.row.RowTokens.len.Goals as goal

pub returns : goal.returns
returns c = sym (row_count c.self.inside.arena.now c.self.inside.first c.self.inside.apart c.self.inside.marks.now c.self.inside.count c.args.self.now (sym c.self.view_is) c.self.invariant)
