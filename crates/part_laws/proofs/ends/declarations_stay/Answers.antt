use Rattle.part_laws.proofs.DeclarationsStay.{declarations_stay}
use Rattle.part_laws.proofs.ends.declarations_stay.Goals as goal

pub returns : goal.returns
returns c = declarations_stay
