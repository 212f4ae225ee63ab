use Rattle.std.proofs.Common.{◌≡◌, ℕ, List, drop}
use Rattle.std.specs.declared.option.Option.{Option}
use Rattle.std.specs.Io.KnownBytes.{Appends}
use Rattle.fmt_ports.specs.Causes.{AppendsPart}
use Rattle.command_refusals.specs.Notes.{skipped_rows}
use Rattle.command_refusals.proofs.in_force.tell_skipped.Given as goal

-- what the rows of the other keys add to the notes, all rows add to those at the beginning
abbrev pub invariant-loop-key : goal.invariant-loop-key
invariant-loop-key g l = record {
  ok : (end : Option (List ℕ)) → Appends (g.E.Sink.taken l.notes) end (skipped_rows l.file (drop l.key-index l.keys))
      → Appends (g.E.Sink.taken l.initial.notes) end (skipped_rows l.file l.keys);
  part : (end : Option (List ℕ)) → AppendsPart (g.E.Sink.taken l.notes) end (skipped_rows l.file (drop l.key-index l.keys))
      → AppendsPart (g.E.Sink.taken l.initial.notes) end (skipped_rows l.file l.keys);
  faults : g.E.Sink.faults l.notes ≡ g.E.Sink.faults l.initial.notes;
}
