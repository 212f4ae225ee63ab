use Rattle.std.proofs.Common.{◌∙◌, sym}
use Rattle.format_core.proofs.LineCounts.{ends_plain}
use Rattle.format_core.proofs.line_ends.ends_by.Goals as goal

pub returns-then-not-has_return : goal.returns-then-not-has_return
returns-then-not-has_return c = rw c.in-DeriveLF.is (ends_plain c.args.text.now (sym c.has_return.ensures ∙ c.if-not-has_return.true))
