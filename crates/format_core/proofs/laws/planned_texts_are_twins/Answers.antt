use Rattle.format_core.proofs.SoundPlan.{planned_texts_are_twins}
use Rattle.format_core.proofs.laws.planned_texts_are_twins.Goals as goal

pub returns : goal.returns
returns c = planned_texts_are_twins
