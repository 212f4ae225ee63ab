use Rattle.std.proofs.Common.{◌≡◌, map, length}
use Rattle.pp_model.specs.Define.{params_of, AfterOpen}
use Rattle.pp_events.specs.View.{tok_shown}
use Rattle.pp_directives.specs.DefineView.{place_shown}
use Rattle.pp_directives.proofs.parameters.read_params.Given as goal

abbrev pub invariant-loop-token : goal.invariant-loop-token
invariant-loop-token l =
    params_of (map (λ n. n.items) l.names.items) (place_shown l.place) (map tok_shown l.rest.items)
    ≡ params_of (map (λ n. n.items) l.fn.names.items) AfterOpen (map tok_shown l.fn.rest.items)

abbrev pub decreases-loop-token : goal.decreases-loop-token
decreases-loop-token l = length l.rest.items
