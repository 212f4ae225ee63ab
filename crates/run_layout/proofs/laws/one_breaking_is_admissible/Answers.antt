use Rattle.run_layout.proofs.OneBreaking.{one_breaking}
use Rattle.run_layout.proofs.laws.one_breaking_is_admissible.Goals as goal

pub returns : goal.returns
returns c = one_breaking
