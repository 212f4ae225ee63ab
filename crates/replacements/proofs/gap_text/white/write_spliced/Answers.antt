use Rattle.std.proofs.Common.{◌∷◌, refl}
use Rattle.fmt_ports.proofs.Parts.{part_of_front, part_of_rest}
use Rattle.replacements.specs.GapText.{indentation, line_end}
use Rattle.replacements.proofs.gap_text.white.write_spliced.Goals as goal

pub returns-in_err-write_all-clause-part : goal.returns-in_err-write_all-clause-part
returns-in_err-write_all-clause-part g c =
    part_of_front _ _ (92 ∷ line_end c.args.crlf) (indentation c.args.style.now c.args.column c.args.column) _ refl (rw (← c.splice.ensures) c.in_err-write_all.ensures.part)

pub returns-clause-part : goal.returns-clause-part
returns-clause-part g c =
    part_of_rest _ _ _ (92 ∷ line_end c.args.crlf) (indentation c.args.style.now c.args.column c.args.column) _ refl (rw (← c.splice.ensures) c.in_ok-write_all.ensures.ok) c.write_indentation.ensures.part
