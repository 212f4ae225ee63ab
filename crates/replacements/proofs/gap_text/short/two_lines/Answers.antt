use Rattle.replacements.proofs.ShortLines.{two_front}
use Rattle.replacements.proofs.gap_text.short.two_lines.Goals as goal

pub returns-clause-is : goal.returns-clause-is
returns-clause-is c = two_front c.args.column c.requires
