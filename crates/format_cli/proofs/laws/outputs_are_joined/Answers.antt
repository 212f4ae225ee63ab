use Rattle.format_cli.proofs.Joined.{outputs_are_joined}
use Rattle.format_cli.proofs.laws.outputs_are_joined.Goals as goal

pub returns : goal.returns
returns c = outputs_are_joined
