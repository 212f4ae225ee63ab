use Rattle.format_core.proofs.SoundPlan.{every_gap_is_decided}
use Rattle.format_core.proofs.laws.every_gap_is_decided.Goals as goal

pub returns : goal.returns
returns c = every_gap_is_decided
