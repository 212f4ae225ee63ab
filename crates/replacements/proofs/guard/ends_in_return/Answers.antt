use Rattle.std.proofs.Common.{◌==◌, arith}
use Rattle.replacements.proofs.Ends.{ends_last}
use Rattle.replacements.proofs.guard.ends_in_return.Goals as goal

pub returns-in-len1-up : goal.returns-in-len1-up
returns-in-len1-up c = ends_last (λ b. b == 13) c.args.raw.now (omega (arith, c.in-len1-up.len_at_least))
