use Rattle.replacements.proofs.Blanks.{blanks_front}
use Rattle.replacements.proofs.gap_text.white.some_blanks.Goals as goal

pub returns : goal.returns
returns c = blanks_front c.args.count c.requires
