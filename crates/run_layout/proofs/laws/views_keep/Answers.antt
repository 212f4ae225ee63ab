use Rattle.run_layout.proofs.Views.{views_keep}
use Rattle.run_layout.proofs.laws.views_keep.Goals as goal

pub returns : goal.returns
returns c = views_keep
