use Rattle.std.proofs.Common.{◌≡◌, map, drop}
use Rattle.pp_events.specs.View.{toks_shown}
use Rattle.pp_model.specs.Replace.{argument}
use Rattle.pp_events.proofs.replace.argument_of.Given as goal

abbrev pub invariant-loop-arg : goal.invariant-loop-arg
invariant-loop-arg l = argument (map toks_shown (drop l.arg-index l.args)) l.before ≡ argument (map toks_shown l.args) l.fn.index
