use Rattle.format_core.proofs.SoundPlan.{early_decisions_stay}
use Rattle.format_core.proofs.laws.early_decisions_stay.Goals as goal

pub returns : goal.returns
returns c = early_decisions_stay
