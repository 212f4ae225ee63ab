use Rattle.std.proofs.Common.{◌<◌, get_or, length, arith}
use Rattle.run_layout.proofs.lines.is_line_decided.Goals as goal

pub at_near-first-requires : goal.at_near-first-requires
at_near-first-requires c = omega (arith, c.requires.some, c.requires.places)

pub prove-unreachable-requires : goal.prove-unreachable-requires
prove-unreachable-requires c =
    let small : get_or c.args.layout.now.view.now c.args.line.now.first 0 < length c.args.layout.now.arena.now.tokens = c.requires.items c.args.line.now.first 0 (omega (arith, c.requires.some, c.requires.places)) in
    omega (arith, small, c.at_near-first.ensures 0, c.if-prove.true, c.len-items.ensures.count)

pub is_decided-requires : goal.is_decided-requires
is_decided-requires c = omega (arith, c.if-prove.false, c.requires.whole, c.len-items.ensures.count)

pub is_decided-requires-2 : goal.is_decided-requires-2
is_decided-requires-2 c = record { items = c.requires.items; places = c.requires.places; whole = c.requires.whole }
