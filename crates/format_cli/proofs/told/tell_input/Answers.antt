use Rattle.std.proofs.Common.{ℕ, Bool, List, refl}
use Rattle.std.proofs.KnownBytes.{Appends-trans}
use Rattle.std.specs.declared.option.Option.{Option}
use Rattle.fmt_ports.specs.Causes.{AppendsPart}
use Rattle.fmt_ports.proofs.Parts.{part_of_front, part_of_rest}
use Rattle.run_layout.specs.declared.report.Counts.{Counts}
use Rattle.run_layout.specs.declared.report.Report.{Report}
use Rattle.report_rows.specs.Rows.{report_rows, summary_row}
use Rattle.command_refusals.proofs.Results.{on_map}
use Rattle.format_cli.specs.Notes.{input_rows}
use Rattle.format_cli.specs.declared.input.Place.{Place}
use Rattle.format_cli.specs.declared.input.Place.TheVariants.{Output, Itself, Nowhere}
use Rattle.format_cli.proofs.Rest.{passed}
use Rattle.format_cli.proofs.told.tell_input.Goals as goal

-- the reports come first
reports_first : (place : Place) (name : List ℕ) (budget : ℕ) (reports : List Report) (counts : Counts) (changed : Bool) (a b : Option (List ℕ)) →
    AppendsPart a b (report_rows name budget reports) → AppendsPart a b (input_rows place name budget reports counts changed)
reports_first Output name budget reports counts changed a b part = part
reports_first Itself name budget reports counts changed a b part = part
reports_first Nowhere name budget reports counts changed a b part =
    part_of_front a b (report_rows name budget reports) (summary_row name counts changed) _ refl part

pub returns-in_err-tell_reports-clause-part : goal.returns-in_err-tell_reports-clause-part
returns-in_err-tell_reports-clause-part g c =
    reports_first c.args.place c.args.name.now c.args.budget c.args.formatted.now.reports.now c.args.formatted.now.counts c.args.formatted.now.changed _ _ c.in_err-tell_reports.ensures.part

pub returns-in-Output-clause-ok : goal.returns-in-Output-clause-ok
returns-in-Output-clause-ok g c = rw c.in-Output.is c.in_ok-tell_reports.ensures.ok

pub returns-in-Output-clause-part : goal.returns-in-Output-clause-part
returns-in-Output-clause-part g c = rw c.in-Output.is c.in_ok-tell_reports.ensures.part

pub returns-in-Itself-clause-ok : goal.returns-in-Itself-clause-ok
returns-in-Itself-clause-ok g c = rw c.in-Itself.is c.in_ok-tell_reports.ensures.ok

pub returns-in-Itself-clause-part : goal.returns-in-Itself-clause-part
returns-in-Itself-clause-part g c = rw c.in-Itself.is c.in_ok-tell_reports.ensures.part

pub returns-in-Nowhere-clause-ok : goal.returns-in-Nowhere-clause-ok
returns-in-Nowhere-clause-ok g c =
    let rows = report_rows c.args.name.now c.args.budget c.args.formatted.now.reports.now in
    let summary = summary_row c.args.name.now c.args.formatted.now.counts c.args.formatted.now.changed in
    rw c.in-Nowhere.is
    (on_map _ _ c.tell_summary.result (λ k. Appends-trans _ _ _ rows summary c.in_ok-tell_reports.ensures.ok k) c.tell_summary.ensures.ok)

pub returns-in-Nowhere-clause-part : goal.returns-in-Nowhere-clause-part
returns-in-Nowhere-clause-part g c =
    let rows = report_rows c.args.name.now c.args.budget c.args.formatted.now.reports.now in
    let summary = summary_row c.args.name.now c.args.formatted.now.counts c.args.formatted.now.changed in
    rw c.in-Nowhere.is (part_of_rest _ _ _ rows summary _ refl c.in_ok-tell_reports.ensures.ok c.tell_summary.ensures.part)

pub returns-in_err-tell_reports-clause-ok : goal.returns-in_err-tell_reports-clause-ok
returns-in_err-tell_reports-clause-ok g c = rw (passed c.from_residual.result c.in_err-tell_reports.field-0.0 c.from_residual.ensures) tt

pub returns-in_err-tell_reports-clause-counts : goal.returns-in_err-tell_reports-clause-counts
returns-in_err-tell_reports-clause-counts g c = rw (passed c.from_residual.result c.in_err-tell_reports.field-0.0 c.from_residual.ensures) c.in_err-tell_reports.ensures.counts

pub returns-in-Output-clause-counts : goal.returns-in-Output-clause-counts
returns-in-Output-clause-counts g c = c.in_ok-tell_reports.ensures.counts

pub returns-in-Itself-clause-counts : goal.returns-in-Itself-clause-counts
returns-in-Itself-clause-counts g c = c.in_ok-tell_reports.ensures.counts
