use Rattle.part_laws.proofs.LinesStay.{lines_stay}
use Rattle.part_laws.proofs.lines.lines_stay.Goals as goal

pub returns : goal.returns
returns c = lines_stay
