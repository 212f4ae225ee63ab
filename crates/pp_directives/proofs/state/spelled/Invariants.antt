use Rattle.std.proofs.Common.{◌≡◌, ◌++◌, map, length}
use Rattle.pp_model.specs.Preprocess.{spelled}
use Rattle.pp_events.specs.View.{shown, tok_shown}
use Rattle.pp_directives.proofs.state.spelled.Given as goal

abbrev pub invariant-loop-token : goal.invariant-loop-token
invariant-loop-token l = map shown l.out.items ++ spelled (map tok_shown l.rest.items) ≡ spelled (map tok_shown l.fn.tokens.items)

abbrev pub decreases-loop-token : goal.decreases-loop-token
decreases-loop-token l = length l.rest.items
