use Rattle.early_gaps.proofs.AllMade.{are_decided}
use Rattle.early_gaps.proofs.all_directives.laws.all_directives_are_decided.Goals as goal

pub returns : goal.returns
returns c = are_decided
