use Rattle.style_table.proofs.NamedRange.{style_of-IsInRange}
use Rattle.style_table.proofs.style.Style.named.Goals as goal

pub returns-in-Some-clause-range : goal.returns-in-Some-clause-range
returns-in-Some-clause-range c = rw c.style.ensures (style_of-IsInRange _)
