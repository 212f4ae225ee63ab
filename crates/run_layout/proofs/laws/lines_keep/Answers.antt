use Rattle.run_layout.proofs.LaidLines.{lines_keep}
use Rattle.run_layout.proofs.laws.lines_keep.Goals as goal

pub returns : goal.returns
returns c = lines_keep
