use Rattle.part_laws.proofs.TellsParts.{tells_parts}
use Rattle.part_laws.proofs.roles.tells_parts.Goals as goal

pub returns : goal.returns
returns c = tells_parts
