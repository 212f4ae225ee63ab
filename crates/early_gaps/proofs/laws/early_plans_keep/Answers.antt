use Rattle.early_gaps.proofs.Tells.{early_keeps}
use Rattle.early_gaps.proofs.laws.early_plans_keep.Goals as goal

pub returns : goal.returns
returns c = early_keeps
