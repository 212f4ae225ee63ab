use Rattle.std.proofs.Common.{arith}
use Rattle.std.proofs.lemmas.Nat.{le_or_l, le_or_r}
use Rattle.line_tokens.specs.Tokens.{no_token}
use Rattle.run_layout.proofs.short_row.most_of_rows.Goals as goal

pub returns-clause-first : goal.returns-clause-first
returns-clause-first c = omega (arith, le_or_l c.extent-extent.result.first_width c.extent-extent.result.last_width, c.extent-extent.ensures.first no_token)

pub returns-clause-last : goal.returns-clause-last
returns-clause-last c = omega (arith, le_or_r c.extent-extent.result.first_width c.extent-extent.result.last_width, c.extent-extent.ensures.last no_token)
