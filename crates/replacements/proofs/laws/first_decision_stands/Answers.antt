use Rattle.replacements.proofs.Firsts.{first}
use Rattle.replacements.proofs.laws.first_decision_stands.Goals as goal

pub returns : goal.returns
returns c = first
