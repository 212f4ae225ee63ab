use Rattle.part_laws.proofs.DeclarationsStay.{declaration_ends_so}
use Rattle.part_laws.proofs.ends.declaration_ends.Goals as goal

pub returns : goal.returns
returns c = declaration_ends_so
