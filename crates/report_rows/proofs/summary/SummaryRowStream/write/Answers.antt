use Rattle.std.proofs.Common.{refl, codes}
use Rattle.std.proofs.KnownBytes.{Appends-trans}
use Rattle.fmt_ports.proofs.Parts.{part_of_front, part_of_rest}
use Rattle.command_refusals.specs.Notes.{numbered_row}
use Rattle.command_refusals.proofs.Results.{on_map}
use Rattle.report_rows.specs.Rows.{lines_row}
use Rattle.report_rows.proofs.summary.SummaryRowStream.write.Goals as goal

pub returns-in_err-write_number-clause-part : goal.returns-in_err-write_number-clause-part
returns-in_err-write_number-clause-part g c =
    part_of_front _ _ (numbered_row c.args.self.now.name.now (codes ": runs ") c.args.self.now.counts.now.runs (codes ", searched ")) (lines_row c.args.self.now.counts.now c.args.self.now.changed) _ refl c.in_err-write_number.ensures.part

pub returns-clause-ok : goal.returns-clause-ok
returns-clause-ok g c =
    on_map _ _ c.tell_lines.result
    (λ k. Appends-trans _ _ _ (numbered_row c.args.self.now.name.now (codes ": runs ") c.args.self.now.counts.now.runs (codes ", searched ")) (lines_row c.args.self.now.counts.now c.args.self.now.changed) c.in_ok-write_number.ensures.ok k)
    c.tell_lines.ensures.ok

pub returns-clause-part : goal.returns-clause-part
returns-clause-part g c =
    part_of_rest _ _ _ (numbered_row c.args.self.now.name.now (codes ": runs ") c.args.self.now.counts.now.runs (codes ", searched ")) (lines_row c.args.self.now.counts.now c.args.self.now.changed) _ refl c.in_ok-write_number.ensures.ok
    c.tell_lines.ensures.part
