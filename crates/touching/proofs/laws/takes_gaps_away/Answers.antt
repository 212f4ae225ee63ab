use Rattle.touching.proofs.TakenAway.{takes_gaps_away}
use Rattle.touching.proofs.laws.takes_gaps_away.Goals as goal

pub returns : goal.returns
returns c = takes_gaps_away
