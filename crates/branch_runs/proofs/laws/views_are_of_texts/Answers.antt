use Rattle.branch_runs.proofs.OfTexts.{of_texts}
use Rattle.branch_runs.proofs.laws.views_are_of_texts.Goals as goal

pub returns : goal.returns
returns c = of_texts
