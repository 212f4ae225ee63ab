use Rattle.pp_model.proofs.Found.{items_are_found}
use Rattle.pp_model.proofs.laws.items_are_found.Goals as goal

pub returns : goal.returns
returns c = items_are_found
