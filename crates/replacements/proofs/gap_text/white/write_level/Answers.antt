use Rattle.std.proofs.Common.{refl, ◌-◌}
use Rattle.fmt_ports.proofs.Parts.{part_of_front, part_of_rest}
use Rattle.replacements.specs.GapText.{blanks, tabs_to}
use Rattle.replacements.proofs.gap_text.white.write_level.Goals as goal

pub returns-in_err-write_tabs_to-clause-part : goal.returns-in_err-write_tabs_to-clause-part
returns-in_err-write_tabs_to-clause-part g c = part_of_front _ _ (tabs_to c.args.width c.args.own) (blanks (c.args.column - c.args.own)) _ refl c.in_err-write_tabs_to.ensures.part

pub returns-clause-part : goal.returns-clause-part
returns-clause-part g c = part_of_rest _ _ _ (tabs_to c.args.width c.args.own) (blanks (c.args.column - c.args.own)) _ refl c.in_ok-write_tabs_to.ensures.ok c.write_blanks.ensures.part
