use Rattle.format_core.proofs.SoundPlan.{kept_gaps_stay}
use Rattle.format_core.proofs.laws.kept_gaps_stay.Goals as goal

pub returns : goal.returns
returns c = kept_gaps_stay
