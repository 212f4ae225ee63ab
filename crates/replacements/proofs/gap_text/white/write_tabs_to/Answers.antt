use Rattle.std.proofs.Common.{refl, ◌/◌, ◌%◌, replicate}
use Rattle.fmt_ports.proofs.Parts.{part_of_front, part_of_rest}
use Rattle.replacements.specs.GapText.{blanks}
use Rattle.replacements.proofs.gap_text.white.write_tabs_to.Goals as goal

pub returns-in_err-write_tabs-clause-part : goal.returns-in_err-write_tabs-clause-part
returns-in_err-write_tabs-clause-part g c = part_of_front _ _ (replicate (c.args.column / c.args.width) 9) (blanks (c.args.column % c.args.width)) _ refl c.in_err-write_tabs.ensures.part

pub returns-clause-part : goal.returns-clause-part
returns-clause-part g c = part_of_rest _ _ _ (replicate (c.args.column / c.args.width) 9) (blanks (c.args.column % c.args.width)) _ refl c.in_ok-write_tabs.ensures.ok c.write_blanks.ensures.part
