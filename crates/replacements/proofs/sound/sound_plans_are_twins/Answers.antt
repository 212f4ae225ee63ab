use Rattle.replacements.proofs.SoundTwin.{sound_twin}
use Rattle.replacements.proofs.sound.sound_plans_are_twins.Goals as goal

pub returns : goal.returns
returns c = sound_twin
