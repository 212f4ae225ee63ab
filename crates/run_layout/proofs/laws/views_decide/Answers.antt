use Rattle.run_layout.proofs.Views.{views_decide}
use Rattle.run_layout.proofs.laws.views_decide.Goals as goal

pub returns : goal.returns
returns c = views_decide
