use Rattle.std.proofs.Common.{◌≡◌, map, take}
use Rattle.pp_events.specs.View.{tok_shown}
use Rattle.pp_events.proofs.copy.copy_toks.Given as goal

abbrev pub invariant-loop-tok : goal.invariant-loop-tok
invariant-loop-tok l = map tok_shown l.out.items ≡ map tok_shown (take l.tok-index l.toks)
