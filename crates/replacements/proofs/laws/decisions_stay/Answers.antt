use Rattle.replacements.proofs.Firsts.{stay}
use Rattle.replacements.proofs.laws.decisions_stay.Goals as goal

pub returns : goal.returns
returns c = stay
