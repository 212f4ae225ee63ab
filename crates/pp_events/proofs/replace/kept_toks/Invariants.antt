use Rattle.std.proofs.Common.{◌≡◌, ◌++◌, map, length}
use Rattle.pp_events.specs.View.{tok_shown, piece_shown}
use Rattle.pp_model.specs.Replace.{kept, hidden}
use Rattle.pp_events.proofs.replace.kept_toks.Given as goal

abbrev pub invariant-loop-piece : goal.invariant-loop-piece
invariant-loop-piece l = let f = hidden (map (λ n. n.items) l.hide) in map tok_shown l.out.items ++ map f (kept (map piece_shown l.pieces.items)) ≡ map f (kept (map piece_shown l.fn.pieces.items))

abbrev pub decreases-loop-piece : goal.decreases-loop-piece
decreases-loop-piece l = length l.pieces.items
