use Rattle.std.proofs.Common.{◌≡◌, ◌++◌, map, drop}
use Rattle.pp_events.specs.View.{shown_spaced, spaced_pairs}
use Rattle.pp_events.proofs.replace.quoted_items.Given as goal

abbrev pub invariant-loop-tok : goal.invariant-loop-tok
invariant-loop-tok l = map shown_spaced l.items.items ++ spaced_pairs (drop l.tok-index l.toks) ≡ spaced_pairs l.toks
