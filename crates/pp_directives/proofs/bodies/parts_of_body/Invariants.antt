use Rattle.std.proofs.Common.{◌≡◌, map, length}
use Rattle.pp_model.specs.Define.{parts_of_body, Nothing}
use Rattle.pp_events.specs.View.{tok_shown, part_shown}
use Rattle.pp_directives.specs.Body.{behind}
use Rattle.pp_directives.specs.DefineView.{before_shown}
use Rattle.pp_directives.proofs.bodies.parts_of_body.Given as goal

abbrev pub invariant-loop-token : goal.invariant-loop-token
invariant-loop-token l =
    behind (map part_shown l.parts.items) (parts_of_body (map (λ n. n.items) l.names) l.function_like (before_shown l.before) (map tok_shown l.rest.items))
    ≡ parts_of_body (map (λ n. n.items) l.names) l.function_like Nothing (map tok_shown l.fn.body.items)

abbrev pub decreases-loop-token : goal.decreases-loop-token
decreases-loop-token l = length l.rest.items
