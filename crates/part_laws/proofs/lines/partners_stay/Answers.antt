use Rattle.part_laws.proofs.PartnersStay.{partners_stay}
use Rattle.part_laws.proofs.lines.partners_stay.Goals as goal

pub returns : goal.returns
returns c = partners_stay
