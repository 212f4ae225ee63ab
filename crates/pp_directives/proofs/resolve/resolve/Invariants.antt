use Rattle.std.proofs.Common.{◌≡◌, ◌≤◌, ◌++◌, map, length}
use Rattle.pp_model.specs.Condition.{resolve, Free}
use Rattle.pp_events.specs.View.{tok_shown, macro_shown}
use Rattle.pp_directives.specs.Resolving.{held_of}
use Rattle.pp_directives.proofs.resolve.resolve.Given as goal

abbrev pub invariant-loop-token : goal.invariant-loop-token
invariant-loop-token l = record {
  same :
      map tok_shown l.out.items ++ resolve (map macro_shown l.table) (held_of (map tok_shown l.held.items)) (map tok_shown l.rest.items)
      ≡ resolve (map macro_shown l.table) Free (map tok_shown l.fn.tokens.items);
  few : length l.held.items ≤ 3;
}

abbrev pub decreases-loop-token : goal.decreases-loop-token
decreases-loop-token l = length l.rest.items
