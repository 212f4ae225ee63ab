use Rattle.c_grammar.proofs.KeptBytes.{kept_bytes_fit}
use Rattle.c_grammar.proofs.laws.kept_bytes_fit.Goals as goal

pub returns : goal.returns
returns c = kept_bytes_fit
