use Rattle.std.proofs.Common.{◌≡◌, ◌+◌, ◌-◌, length}
use Rattle.replacements.specs.Decisions.{decided_all}
use Rattle.line_gaps.specs.InputColumns.{input_before, old_from}
use Rattle.line_gaps.specs.InputColumns.{reported_made}
use Rattle.line_gaps.proofs.reported.report_line.Given as goal

abbrev pub invariant-loop-place : goal.invariant-loop-place
invariant-loop-place l = record {
  place : l.cursor.place ≡ l.place;
  column : l.cursor.column ≡ input_before l.layout.style.now l.layout.arena.now l.layout.view.now l.place;
  len : length l.plan ≡ length l.initial.plan;
  rest : decided_all l.plan (old_from l.layout.style.now l.layout.arena.now l.layout.view.now l.cursor.column l.place (l.line.last + 1 - l.place)) ≡ decided_all l.initial.plan (reported_made l.layout.style.now l.layout.arena.now l.layout.view.now l.line);
}
