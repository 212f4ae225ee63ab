use Rattle.early_gaps.proofs.AllSound.{all_stay_sound}
use Rattle.early_gaps.proofs.all_directives.laws.all_directives_stay_sound.Goals as goal

pub returns : goal.returns
returns c = all_stay_sound
