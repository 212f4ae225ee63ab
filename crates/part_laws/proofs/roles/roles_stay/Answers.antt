use Rattle.part_laws.proofs.RolesStay.{roles_stay}
use Rattle.part_laws.proofs.roles.roles_stay.Goals as goal

pub returns : goal.returns
returns c = roles_stay
