use Rattle.std.proofs.Common.{◌≡◌, ◌≤◌}
use Rattle.std.specs.Vec.{vec_len, vec_capacity}
use Rattle.break_search.proofs.Descending.{AreTaken}
use Rattle.break_search.proofs.descent.breaks_of.Given as goal

abbrev pub invariant-loop-done : goal.invariant-loop-done
invariant-loop-done l = record {
  taken : AreTaken l.initial.trail l.count l.breaks.items l.trail l.done;
  len : vec_len l.breaks ≡ l.done;
  room : l.count ≤ vec_capacity l.breaks;
}
