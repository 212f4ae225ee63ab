use Rattle.std.proofs.Common.{◌++◌, [], refl, codes}
use Rattle.std.proofs.KnownBytes.{Appends-trans}
use Rattle.fmt_ports.proofs.Parts.{part_of_front, part_of_rest}
use Rattle.command_refusals.specs.Notes.{numbered_row}
use Rattle.command_refusals.proofs.Results.{on_map}
use Rattle.report_rows.proofs.reports.ReportRowStream.write.Goals as goal

pub returns-in_err-write_number-clause-part : goal.returns-in_err-write_number-clause-part
returns-in_err-write_number-clause-part g c =
    part_of_front _ _ (numbered_row c.args.self.now.name.now (codes ":") c.args.self.now.report.now.line (codes ": run "))
    (numbered_row [] [] c.args.self.now.report.now.run (codes ": not searched within ") ++ numbered_row [] [] c.args.self.now.budget (codes " cells\n")) _ refl c.in_err-write_number.ensures.part

pub returns-clause-part : goal.returns-clause-part
returns-clause-part g c =
    part_of_rest _ _ _ (numbered_row c.args.self.now.name.now (codes ":") c.args.self.now.report.now.line (codes ": run "))
    (numbered_row [] [] c.args.self.now.report.now.run (codes ": not searched within ") ++ numbered_row [] [] c.args.self.now.budget (codes " cells\n")) _ refl c.in_ok-write_number.ensures.ok c.tell_run.ensures.part

pub returns-clause-ok : goal.returns-clause-ok
returns-clause-ok g c =
    on_map _ _ c.tell_run.result
    (λ k. Appends-trans _ _ _ (numbered_row c.args.self.now.name.now (codes ":") c.args.self.now.report.now.line (codes ": run "))
    (numbered_row [] [] c.args.self.now.report.now.run (codes ": not searched within ") ++ numbered_row [] [] c.args.self.now.budget (codes " cells\n")) c.in_ok-write_number.ensures.ok k)
    c.tell_run.ensures.ok
