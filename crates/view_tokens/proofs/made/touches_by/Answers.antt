use Rattle.std.proofs.Common.{◌∙◌, sym}
use Rattle.view_tokens.proofs.made.touches_by.Goals as goal

pub returns-in-Some : goal.returns-in-Some
returns-in-Some c = c.requires.told c.in-Some.touch (sym c.touch_of.ensures ∙ c.in-Some.is)
