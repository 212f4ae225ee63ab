use Rattle.std.proofs.Common.{◌≡◌, ◌≤◌, [], map, drop}
use Rattle.pp_model.specs.Call.{collect}
use Rattle.pp_events.specs.View.{tok_shown, toks_shown}
use Rattle.pp_events.proofs.call.read_args.Given as goal

abbrev pub invariant-loop-index : goal.invariant-loop-index
invariant-loop-index l =
    record {
      same :
          collect l.limit l.depth (map tok_shown l.arg.items) (map toks_shown l.args.items) (map tok_shown (drop l.index l.rest.items))
          ≡ collect l.fn.limit 0 [] (map toks_shown l.fn.args.items) (map tok_shown (drop 1 l.rest.items));
      bound : l.depth ≤ l.index;
    }
