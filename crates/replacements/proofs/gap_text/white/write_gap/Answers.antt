use Rattle.std.proofs.Common.{◌++◌, ◌∷◌, refl}
use Rattle.fmt_ports.proofs.Parts.{part_of_front, part_of_rest}
use Rattle.replacements.specs.GapText.{blanks, indentation, line_end}
use Rattle.replacements.proofs.gap_text.white.write_gap.Goals as goal

pub returns-in_err-write_blanks-in-Splice-clause-part :
    goal.returns-in_err-write_blanks-in-Splice-clause-part
returns-in_err-write_blanks-in-Splice-clause-part g c = rw c.in-Splice.is
    (part_of_front _ _ (blanks c.in-Splice.pad) (92 ∷ line_end c.args.crlf ++ indentation c.args.style.now c.in-Splice.column c.in-Splice.column) _ refl c.in_err-write_blanks-in-Splice.ensures.part)

pub returns-in_ok-write_blanks-in-Splice-clause-part :
    goal.returns-in_ok-write_blanks-in-Splice-clause-part
returns-in_ok-write_blanks-in-Splice-clause-part g c = rw c.in-Splice.is
    (part_of_rest _ _ _ (blanks c.in-Splice.pad) (92 ∷ line_end c.args.crlf ++ indentation c.args.style.now c.in-Splice.column c.in-Splice.column) _ refl c.in_ok-write_blanks-in-Splice.ensures.ok c.write_spliced.ensures.part)
