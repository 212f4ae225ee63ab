use Rattle.searched_line.proofs.LineSteps.{stays}
use Rattle.searched_line.proofs.line.SearchedLine.has_to_stay.Goals as goal

pub returns : goal.returns
returns c = stays c.args.self.now c.args.state.now _ _ c.requires.some c.token_before-before.ensures c.token-token.ensures _ (c.gap.ensures _ _ c.token_before-before.ensures c.token-token.ensures).stays
