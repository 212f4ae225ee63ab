use Rattle.std.proofs.Common.{refl, rules}
use Rattle.report_rows.proofs.ReportRows.{row_told, part_told, front_told}
use Rattle.report_rows.proofs.reports.tell_reports.Goals as goal

pub loop-report-init : goal.loop-report-init
loop-report-init g c = record { ok = λ end h. h; part = λ end h. h; faults = refl }

pub loop-report-preserved : goal.loop-report-preserved
loop-report-preserved g c = record {
  ok = λ end h.
      c.loop-report.invariant.ok end
      (row_told c.args.name.now c.args.budget c.args.reports.now c.loop-report.report-index _ _ _ end c.loop-report-test.true c.in_ok-tell_report.ensures.ok h);
  part = λ end h.
      c.loop-report.invariant.part end
      (part_told c.args.name.now c.args.budget c.args.reports.now c.loop-report.report-index _ _ _ end c.loop-report-test.true c.in_ok-tell_report.ensures.ok h);
  faults = search rules;
}

pub returns-in_err-tell_report-clause-part : goal.returns-in_err-tell_report-clause-part
returns-in_err-tell_report-clause-part g c =
    c.loop-report.invariant.part _
    (front_told c.args.name.now c.args.budget c.args.reports.now c.loop-report.report-index _ _ _ c.loop-report-test.true c.in_err-tell_report.ensures.part)
