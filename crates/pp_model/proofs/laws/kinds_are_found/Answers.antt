use Rattle.pp_model.proofs.Found.{kinds_are_found}
use Rattle.pp_model.proofs.laws.kinds_are_found.Goals as goal

pub returns : goal.returns
returns c = kinds_are_found
