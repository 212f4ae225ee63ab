use Rattle.std.proofs.Common.{refl}
use Rattle.command_refusals.proofs.refusal.lines_row.Goals as goal

pub returns-in-BadText : goal.returns-in-BadText
returns-in-BadText c = rw c.in-BadText.is refl

pub returns-in-Reversed : goal.returns-in-Reversed
returns-in-Reversed c = rw c.in-Reversed.is refl

pub returns-in-ZeroLine : goal.returns-in-ZeroLine
returns-in-ZeroLine c = rw c.in-ZeroLine.is refl

pub returns-in-TooMany : goal.returns-in-TooMany
returns-in-TooMany c = rw c.in-TooMany.is refl

pub returns-in-NoMemory : goal.returns-in-NoMemory
returns-in-NoMemory c = rw c.in-NoMemory.is refl
