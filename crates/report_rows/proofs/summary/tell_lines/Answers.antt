use Rattle.std.proofs.Common.{[], refl, codes}
use Rattle.std.proofs.KnownBytes.{Appends-trans}
use Rattle.fmt_ports.proofs.Parts.{part_of_front, part_of_rest}
use Rattle.command_refusals.specs.Notes.{numbered_row}
use Rattle.command_refusals.proofs.Results.{on_map}
use Rattle.report_rows.specs.Rows.{cost_row}
use Rattle.report_rows.proofs.summary.tell_lines.Goals as goal

pub returns-in_err-write_count-clause-part : goal.returns-in_err-write_count-clause-part
returns-in_err-write_count-clause-part g c =
    part_of_front _ _ (numbered_row [] [] c.args.counts.now.searched (codes ", over ")) (cost_row c.args.counts.now c.args.changed) _ refl c.in_err-write_count.ensures.part

pub returns-clause-ok : goal.returns-clause-ok
returns-clause-ok g c =
    on_map _ _ c.tell_cost.result
    (λ k. Appends-trans _ _ _ (numbered_row [] [] c.args.counts.now.searched (codes ", over ")) (cost_row c.args.counts.now c.args.changed) c.in_ok-write_count.ensures.ok k)
    c.tell_cost.ensures.ok

pub returns-clause-part : goal.returns-clause-part
returns-clause-part g c =
    part_of_rest _ _ _ (numbered_row [] [] c.args.counts.now.searched (codes ", over ")) (cost_row c.args.counts.now c.args.changed) _ refl c.in_ok-write_count.ensures.ok
    c.tell_cost.ensures.part
