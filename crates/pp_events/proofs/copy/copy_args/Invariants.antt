use Rattle.std.proofs.Common.{◌≡◌, map, take}
use Rattle.pp_events.specs.View.{toks_shown}
use Rattle.pp_events.proofs.copy.copy_args.Given as goal

abbrev pub invariant-loop-arg : goal.invariant-loop-arg
invariant-loop-arg l = map toks_shown l.out.items ≡ map toks_shown (take l.arg-index l.args)
