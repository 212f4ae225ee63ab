use Rattle.replacements.proofs.Rewritten.{rewrites_free_gaps}
use Rattle.replacements.proofs.free_gaps.rewrites_free_gaps.Goals as goal

pub returns : goal.returns
returns c = rewrites_free_gaps
