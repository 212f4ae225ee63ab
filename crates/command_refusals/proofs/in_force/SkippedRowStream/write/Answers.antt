use Rattle.std.proofs.Common.{◌++◌, refl, codes}
use Rattle.std.proofs.KnownBytes.{Appends-trans}
use Rattle.fmt_ports.proofs.Parts.{part_of_front, part_of_rest}
use Rattle.command_refusals.specs.Notes.{numbered_row}
use Rattle.command_refusals.proofs.Results.{on_map}
use Rattle.command_refusals.proofs.in_force.SkippedRowStream.write.Goals as goal

pub returns-in_err-write_number-clause-part : goal.returns-in_err-write_number-clause-part
returns-in_err-write_number-clause-part g c =
    part_of_front _ _ (numbered_row c.args.self.now.file.now (codes ":") c.args.self.now.key.now.line (codes ": skipped ")) (c.args.self.now.key.now.key ++ codes "\n") _ refl
    c.in_err-write_number.ensures.part

pub returns-clause-part : goal.returns-clause-part
returns-clause-part g c =
    part_of_rest _ _ _ (numbered_row c.args.self.now.file.now (codes ":") c.args.self.now.key.now.line (codes ": skipped ")) (c.args.self.now.key.now.key ++ codes "\n") _ refl
    c.in_ok-write_number.ensures.ok (rw (← c.text.ensures) c.write_two.ensures.part)

pub returns-clause-ok : goal.returns-clause-ok
returns-clause-ok g c =
    on_map _ _ c.write_two.result
    (λ k. Appends-trans _ _ _ (numbered_row c.args.self.now.file.now (codes ":") c.args.self.now.key.now.line (codes ": skipped ")) (c.args.self.now.key.now.key ++ codes "\n") c.in_ok-write_number.ensures.ok k)
    (rw (← c.text.ensures) c.write_two.ensures.ok)
