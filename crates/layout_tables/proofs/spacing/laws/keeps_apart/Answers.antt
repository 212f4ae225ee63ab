use Rattle.layout_tables.proofs.Apart.{apart}
use Rattle.layout_tables.proofs.spacing.laws.keeps_apart.Goals as goal

pub returns : goal.returns
returns c = apart
