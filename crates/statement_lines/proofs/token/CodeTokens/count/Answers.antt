use Rattle.std.proofs.Common.{◌∙◌, List, ap, sym, length}
use Rattle.statement_lines.specs.declared.token.CodeToken.{CodeToken}
use Rattle.statement_lines.proofs.TokenLemmas.{token_of_each_class}
use Rattle.statement_lines.proofs.token.CodeTokens.count.Goals as goal

pub returns : goal.returns
returns c = sym (token_of_each_class _ 0 c.self.inside.classes.now) ∙ ap (λ (ts : List CodeToken). length ts) c.self.view_is
