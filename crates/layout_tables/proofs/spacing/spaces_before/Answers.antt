use Rattle.layout_tables.proofs.Groups.{each_style_tells}
use Rattle.layout_tables.proofs.spacing.spaces_before.Goals as goal

pub before-requires-clause-tell : goal.before-requires-clause-tell
before-requires-clause-tell c = each_style_tells c.args.style.now
