use Rattle.run_layout.proofs.LaidLines.{lines_stay_sound}
use Rattle.run_layout.proofs.laws.lines_stay_sound.Goals as goal

pub returns : goal.returns
returns c = lines_stay_sound
