use Rattle.run_layout.proofs.Views.{views_stay_sound}
use Rattle.run_layout.proofs.laws.views_stay_sound.Goals as goal

pub returns : goal.returns
returns c = views_stay_sound
