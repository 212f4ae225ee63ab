use Rattle.std.proofs.lemmas.List.{take-replicate}
use Rattle.replacements.proofs.gap_text.white.some_tabs.Goals as goal

pub returns : goal.returns
returns c = take-replicate c.args.count 64 9 c.requires
