use Rattle.early_gaps.proofs.LeftOpen.{early_or_left_open}
use Rattle.early_gaps.proofs.laws.early_or_left.Goals as goal

pub returns : goal.returns
returns c = early_or_left_open
