use Rattle.line_state.proofs.Refusing.{stays_behind}
use Rattle.line_state.proofs.rules.has_to_stay.Goals as goal

pub returns : goal.returns
returns c = stays_behind c.args.style.now c.args.left.now c.args.right.now c.args.fixed c.is_refused.result c.is_refused.ensures
