use Rattle.std.proofs.Common.{◌≡◌, ◌∙◌, ◌+◌, ◌-◌, ◌<◌, length, refl, arith}
use Rattle.view_parts.proofs.EndsOfParts.{row_recalled}
use Rattle.view_parts.proofs.known.recalled_row.Goals as goal

pub returns : goal.returns
returns c =
    let known = c.args.known in
    let behind = known.seen - 1 - c.args.first.id.0 in
    let below : c.args.first.place + behind < length c.args.source.now.view.now = omega (arith, c.if-behind-count.false, c.len-count.ensures.count, c.requires.here) in
    let is : c.at_near.result.0 ≡ known.seen - 1 = omega (arith, c.if-at_near-last.false) in
    row_recalled c.args.source.now.arena.now c.args.source.now.view.now c.args.first.place c.args.first.id.0 behind known c.len-count.ensures.increase below c.requires.item (c.at_near.ensures 0 ∙ is) refl c.requires.known
