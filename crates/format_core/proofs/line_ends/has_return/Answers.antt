use Rattle.std.proofs.Common.{◌==◌, ◌∙◌}
use Rattle.format_core.proofs.LineCounts.{found_any}
use Rattle.format_core.proofs.line_ends.has_return.Goals as goal

pub returns : goal.returns
returns c = c.is_some.ensures ∙ found_any (λ b. b == 13) c.args.text.now c.memchr.result c.memchr.ensures
