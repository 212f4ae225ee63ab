use Rattle.run_layout.proofs.LaidLines.{lines_decide}
use Rattle.run_layout.proofs.laws.lines_decide.Goals as goal

pub returns : goal.returns
returns c = lines_decide
