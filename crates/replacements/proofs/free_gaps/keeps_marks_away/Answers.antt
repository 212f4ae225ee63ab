use Rattle.replacements.proofs.FirstMark.{keeps_marks_away}
use Rattle.replacements.proofs.free_gaps.keeps_marks_away.Goals as goal

pub returns : goal.returns
returns c = keeps_marks_away
