use Rattle.std.proofs.Common.{◌≡◌, ◌++◌, map, length}
use Rattle.pp_events.specs.View.{piece_shown}
use Rattle.pp_model.specs.Replace.{paste_from}
use Rattle.pp_events.proofs.replace.paste_rest.Given as goal

abbrev pub invariant-loop-right : goal.invariant-loop-right
invariant-loop-right g l = map piece_shown l.out.items ++ paste_from (g.R.Spellings.kinds l.reader) (piece_shown l.left) (map piece_shown l.rest.items) ≡ paste_from (g.R.Spellings.kinds l.reader) (piece_shown l.fn.first) (map piece_shown l.fn.rest.items)

abbrev pub decreases-loop-right : goal.decreases-loop-right
decreases-loop-right g l = length l.rest.items
