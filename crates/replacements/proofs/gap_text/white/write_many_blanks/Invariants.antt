use Rattle.std.proofs.Common.{◌≡◌, ◌-◌, ◌≤◌}
use Rattle.std.specs.Io.KnownBytes.{Appends}
use Rattle.replacements.specs.GapText.{blanks}
use Rattle.replacements.proofs.gap_text.white.write_many_blanks.Given as goal

abbrev pub invariant-loop-left : goal.invariant-loop-left
invariant-loop-left g l = record {
  within : l.left ≤ l.count;
  taken : Appends (g.K.Sink.taken l.initial.sink) (g.K.Sink.taken l.sink) (blanks (l.count - l.left));
  faults : g.K.Sink.faults l.sink ≡ g.K.Sink.faults l.initial.sink;
}

abbrev pub decreases-loop-left : goal.decreases-loop-left
decreases-loop-left g l = l.left
