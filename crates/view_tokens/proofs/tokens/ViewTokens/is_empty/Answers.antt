use Rattle.std.proofs.Common.{◌∙◌, sym, ap, ◌==◌}
use Rattle.view_tokens.proofs.Rows.{view_count}
use Rattle.view_tokens.proofs.tokens.ViewTokens.is_empty.Goals as goal

pub returns : goal.returns
returns c = c.is_empty.ensures ∙ ap (λ n. n == 0) (sym (view_count c.self.inside.arena.now c.self.inside.view.now c.self.inside.marks.now c.args.self.now (sym c.self.view_is)))
