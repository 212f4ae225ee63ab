use Rattle.std.proofs.Common.{◌≡◌, reverse, ◌<◌, ◌≤◌}
use Rattle.token_classes.specs.Partners.{count_braces, nearest_brace}
use Rattle.token_classes.proofs.pairing.take_brace.Given as goal

abbrev pub invariant-loop-opener : goal.invariant-loop-opener
invariant-loop-opener l = record {
  same : nearest_brace (reverse l.stack.items) ≡ nearest_brace (reverse l.initial.stack.items);
  count : l.braces ≡ count_braces (reverse l.stack.items);
  fewer : l.braces ≤ l.initial.braces;
  some : 0 < l.braces;
}

abbrev pub decreases-loop-opener : goal.decreases-loop-opener
decreases-loop-opener l = goal.left-loop-opener l
