use Rattle.branch_runs.proofs.Zeros.{zeros-off}
use Rattle.branch_runs.proofs.open_groups.OpenGroups.is_dead.Goals as goal

pub returns : goal.returns
returns c = rw (← c.self.view_is, c.self.invariant) (zeros-off c.self.inside.stack)
