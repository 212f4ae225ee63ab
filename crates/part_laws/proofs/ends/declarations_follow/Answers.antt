use Rattle.part_laws.proofs.DeclarationsFollow.{declarations_follow}
use Rattle.part_laws.proofs.ends.declarations_follow.Goals as goal

pub returns : goal.returns
returns c = declarations_follow
