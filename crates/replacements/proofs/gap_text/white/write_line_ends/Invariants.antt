use Rattle.std.proofs.Common.{◌≡◌}
use Rattle.std.specs.Io.KnownBytes.{Appends}
use Rattle.replacements.specs.GapText.{line_ends}
use Rattle.replacements.proofs.gap_text.white.write_line_ends.Given as goal

abbrev pub invariant-loop-line : goal.invariant-loop-line
invariant-loop-line g l = record {
  taken : Appends (g.K.Sink.taken l.initial.sink) (g.K.Sink.taken l.sink) (line_ends l.crlf l._line);
  faults : g.K.Sink.faults l.sink ≡ g.K.Sink.faults l.initial.sink;
}
