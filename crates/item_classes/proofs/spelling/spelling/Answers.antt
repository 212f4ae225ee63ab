use Rattle.std.proofs.Common.{sym, ◌∙◌}
use Rattle.item_classes.proofs.Spellings.{reads_itself}
use Rattle.item_classes.proofs.spelling.spelling.Goals as goal

pub returns-then-are_themselves : goal.returns-then-are_themselves
returns-then-are_themselves c = sym (reads_itself c.args.dialect c.args.raw.now (sym c.are_themselves.ensures ∙ c.if-are_themselves.true))
