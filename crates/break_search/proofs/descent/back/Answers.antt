use Rattle.std.proofs.Common.{true}
use Rattle.std.proofs.lemmas.Bool.{OnTrue_at}
use Rattle.break_search.proofs.Descending.{try_more, try_refused, back_again, back_one, back_break}
use Rattle.break_search.proofs.descent.back.Goals as goal

pub returns-then-trying-gt0 : goal.returns-then-trying-gt0
returns-then-trying-gt0 c lists budget b = back_again c.args.line.now c.requires.line.some lists budget _ _ _ b _ c.requires.top c.if-here-eq1.true _ c.if-trying-lt340282366920938463463374607431768211455.true

pub returns-then-here : goal.returns-then-here
returns-then-here c lists budget b = rw c.after-trying.ensures (back_one c.args.line.now c.requires.line.some lists budget _ _ _ b _ c.requires.top _ _ c.in-Some.ensures c.if-here-eq1.false)

pub has_to_stay-requires-clause-next : goal.has_to_stay-requires-clause-next
has_to_stay-requires-clause-next c =
    let tries = back_break c.args.line.now c.requires.line.some c.requires.descent.0 c.requires.descent.1 _ _ _ c.requires.descent.2 _ c.requires.top _ _ c.in-Some.ensures c.if-here-eq1.false c.if-here.false in
    try_more _ c.requires.line.some c.requires.line.short _ _ _ _ _ true tries _ c.in-Some-top.ensures

pub returns-then-has_to_stay : goal.returns-then-has_to_stay
returns-then-has_to_stay c lists budget b =
    let tries = back_break c.args.line.now c.requires.line.some lists budget _ _ _ b _ c.requires.top _ _ c.in-Some.ensures c.if-here-eq1.false c.if-here.false in
    try_refused _ c.requires.line.some c.requires.line.short _ _ _ _ _ true tries _ c.in-Some-top.ensures (OnTrue_at c.if-has_to_stay.true c.has_to_stay.ensures)

pub returns-else-has_to_stay : goal.returns-else-has_to_stay
returns-else-has_to_stay c lists budget b = rw c.after-trying.ensures (back_one c.args.line.now c.requires.line.some lists budget _ _ _ b _ c.requires.top _ _ c.in-Some.ensures c.if-here-eq1.false)
