use Rattle.early_gaps.proofs.SoundStart.{early_sound}
use Rattle.early_gaps.proofs.laws.early_plans_are_sound.Goals as goal

pub returns : goal.returns
returns c = early_sound
