use Rattle.std.proofs.Common.{◌≡◌, drop, find}
use Rattle.style_table.specs.Keys.{is_spelled}
use Rattle.style_table.proofs.key.find_in.Given as goal

abbrev pub invariant-loop-key : goal.invariant-loop-key
invariant-loop-key l =
    find (is_spelled l.outer l.label) (drop l.key-index l.keys) ≡ find (is_spelled l.outer l.label) l.keys
