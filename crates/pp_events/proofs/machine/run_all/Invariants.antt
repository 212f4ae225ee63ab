use Rattle.std.proofs.Common.{◌≡◌, map}
use Rattle.pp_model.specs.Expand.{run}
use Rattle.pp_events.specs.View.{macro_shown}
use Rattle.pp_events.specs.MachineView.{state_shown}
use Rattle.pp_events.proofs.machine.run_all.Given as goal

abbrev pub invariant-turns : goal.invariant-turns
invariant-turns g l = run (g.R.Spellings.kinds l.reader) (map macro_shown l.table) l.left (state_shown l.state) ≡ run (g.R.Spellings.kinds l.reader) (map macro_shown l.table) l.fn.turns (state_shown l.fn.start)

abbrev pub decreases-turns : goal.decreases-turns
decreases-turns g l = l.left
