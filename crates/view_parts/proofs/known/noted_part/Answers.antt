use Rattle.std.proofs.Common.{arith}
use Rattle.view_parts.proofs.EndsOfParts.{none_some}
use Rattle.view_parts.proofs.known.noted_part.Goals as goal

pub noted_row-requires : goal.noted_row-requires
noted_row-requires c = record { within = c.requires.within; told = c.requires.told }

pub overflow_sub-part : goal.overflow_sub-part
overflow_sub-part c =
    let told = c.requires.told in
    omega (arith, told.some, told.later)

pub noted_span-requires : goal.noted_span-requires
noted_span-requires c = record { told = c.requires.told; known = c.requires.known }

pub returns-in-Some-least : goal.returns-in-Some-least
returns-in-Some-least c = c.noted_span.ensures

pub returns-in_default-least : goal.returns-in_default-least
returns-in_default-least c = record { end = tt; row = λ row none. absurd (none_some row none); known = c.requires.known }
