use Rattle.std.proofs.Common.{◌≡◌, ◌++◌, map, drop}
use Rattle.pp_model.specs.Preprocess.{left_open}
use Rattle.pp_directives.specs.CondView.{cond_shown}
use Rattle.pp_directives.specs.WorldView.{event_shown}
use Rattle.pp_directives.proofs.conditions.blame_open.Given as goal

abbrev pub invariant-loop-index : goal.invariant-loop-index
invariant-loop-index l =
    map event_shown l.events.items ++ left_open (map cond_shown (drop l.index l.open.items)) ≡ map event_shown l.fn.events.items ++ left_open (map cond_shown l.open.items)
