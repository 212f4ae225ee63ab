use Rattle.pp_model.proofs.Alike.{alike}
use Rattle.pp_model.proofs.laws.twins_preprocess_alike.Goals as goal

pub returns : goal.returns
returns c = alike
