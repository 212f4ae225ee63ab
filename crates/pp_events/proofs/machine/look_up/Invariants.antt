use Rattle.std.proofs.Common.{◌≡◌, map, drop}
use Rattle.pp_model.specs.Macro.{lookup}
use Rattle.pp_events.specs.View.{macro_shown}
use Rattle.pp_events.proofs.machine.look_up.Given as goal

abbrev pub invariant-loop-entry : goal.invariant-loop-entry
invariant-loop-entry l = lookup (map macro_shown (drop l.entry-index l.table)) l.name ≡ lookup (map macro_shown l.table) l.name
