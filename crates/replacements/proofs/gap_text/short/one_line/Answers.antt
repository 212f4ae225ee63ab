use Rattle.replacements.proofs.ShortLines.{one_front}
use Rattle.replacements.proofs.gap_text.short.one_line.Goals as goal

pub returns-clause-is : goal.returns-clause-is
returns-clause-is c = one_front c.args.column c.requires
