use Rattle.std.proofs.Common.{◌≡◌, ◌++◌, map}
use Rattle.pp_model.specs.Preprocess.{token_events}
use Rattle.pp_events.specs.View.{tok_shown}
use Rattle.pp_directives.specs.WorldView.{event_shown}
use Rattle.pp_directives.proofs.state.token_events.Given as goal

abbrev pub invariant-loop-token : goal.invariant-loop-token
invariant-loop-token l = map event_shown l.events.items ≡ map event_shown l.initial.events.items ++ token_events (map tok_shown l.yielded)
