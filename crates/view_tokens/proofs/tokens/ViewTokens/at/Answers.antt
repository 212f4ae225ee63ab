use Rattle.std.proofs.Common.{◌∙◌, sym, ap, arith, List, get_or}
use Rattle.line_tokens.specs.declared.LineTok.{LineTok}
use Rattle.view_tokens.proofs.Rows.{view_count}
use Rattle.view_tokens.proofs.tokens.ViewTokens.at.Goals as goal

pub token_at-requires-clause-place : goal.token_at-requires-clause-place
token_at-requires-clause-place c = omega (arith, view_count c.self.inside.arena.now c.self.inside.view.now c.self.inside.marks.now c.args.self.now (sym c.self.view_is), c.requires)

pub returns : goal.returns
returns c = λ d. c.token_at.ensures d ∙ ap (λ (ts : List LineTok). get_or ts c.args.place d) c.self.view_is
