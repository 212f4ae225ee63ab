use Rattle.std.proofs.Common.{◌≡◌, ◌++◌, map, length}
use Rattle.pp_events.specs.View.{tok_shown, piece_shown}
use Rattle.pp_model.specs.Replace.{free}
use Rattle.pp_events.proofs.replace.add_free.Given as goal

abbrev pub invariant-loop-tok : goal.invariant-loop-tok
invariant-loop-tok l = map piece_shown l.out.items ++ map free (map tok_shown l.toks.items) ≡ map piece_shown l.fn.out.items ++ map free (map tok_shown l.fn.toks.items)

abbrev pub decreases-loop-tok : goal.decreases-loop-tok
decreases-loop-tok l = length l.toks.items
