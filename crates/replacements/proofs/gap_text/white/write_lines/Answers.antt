use Rattle.std.proofs.Common.{refl}
use Rattle.fmt_ports.proofs.Parts.{part_of_front, part_of_rest}
use Rattle.replacements.specs.GapText.{line_ends, indentation, level_columns}
use Rattle.replacements.proofs.gap_text.white.write_lines.Goals as goal

pub returns-in_err-write_line_ends-clause-part : goal.returns-in_err-write_line_ends-clause-part
returns-in_err-write_line_ends-clause-part g c =
    part_of_front _ _ (line_ends c.args.crlf c.args.count) (indentation c.args.style.now (level_columns c.args.style.now c.args.level c.args.column) c.args.column) _ refl c.in_err-write_line_ends.ensures.part

pub returns-clause-part : goal.returns-clause-part
returns-clause-part g c =
    let part = rw c.level_columns.ensures.is at c.write_indentation.ensures.part in
    part_of_rest _ _ _ (line_ends c.args.crlf c.args.count) (indentation c.args.style.now (level_columns c.args.style.now c.args.level c.args.column) c.args.column) _ refl c.in_ok-write_line_ends.ensures.ok part
