use Rattle.std.proofs.Common.{◌≡◌, ℕ, List, drop}
use Rattle.std.specs.declared.option.Option.{Option}
use Rattle.std.specs.Io.KnownBytes.{Appends}
use Rattle.fmt_ports.specs.Causes.{AppendsPart}
use Rattle.report_rows.specs.Rows.{report_rows}
use Rattle.report_rows.proofs.reports.tell_reports.Given as goal

-- what the rows of the other reports add to the notes, all rows add to those at the beginning
abbrev pub invariant-loop-report : goal.invariant-loop-report
invariant-loop-report g l = record {
  ok : (end : Option (List ℕ)) → Appends (g.E.Sink.taken l.notes) end (report_rows l.name l.budget (drop l.report-index l.reports))
      → Appends (g.E.Sink.taken l.initial.notes) end (report_rows l.name l.budget l.reports);
  part : (end : Option (List ℕ)) → AppendsPart (g.E.Sink.taken l.notes) end (report_rows l.name l.budget (drop l.report-index l.reports))
      → AppendsPart (g.E.Sink.taken l.initial.notes) end (report_rows l.name l.budget l.reports);
  faults : g.E.Sink.faults l.notes ≡ g.E.Sink.faults l.initial.notes;
}
