use Rattle.std.proofs.Common.{◌≡◌, map}
use Rattle.pp_model.specs.Preprocess.{tok_of}
use Rattle.pp_events.specs.View.{tok_shown}
use Rattle.pp_items.specs.View.{item_shown}
use Rattle.pp_directives.specs.WorldView.{shift_shown}
use Rattle.pp_text.proofs.tokens.toks_of.Given as goal

abbrev pub invariant-loop-item : goal.invariant-loop-item
invariant-loop-item l = map tok_shown l.tokens.items ≡ map (tok_of (shift_shown l.fn.shift)) (map item_shown l.yielded)
