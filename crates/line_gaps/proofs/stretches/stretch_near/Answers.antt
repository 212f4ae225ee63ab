use Rattle.std.proofs.Common.{◌≡◌, ◌<◌, ◌+◌, ℕ, get_or, arith}
use Rattle.line_gaps.proofs.Stretched.{rest_follow, rest_some, left_within}
use Rattle.line_gaps.proofs.stretches.stretch_near.Goals as goal

pub returns-in-Some-clause-are : goal.returns-in-Some-clause-are
returns-in-Some-clause-are c = λ j below.
    rest_follow c.segments.result.now c.args.view.now c.args.number.now c.args.place j c.in-Some.rest c.segments.ensures.items c.segments.ensures.rule c.in-Some.ensures (omega (arith, below, c.min-count.ensures))

pub returns-in-Some-clause-items : goal.returns-in-Some-clause-items
returns-in-Some-clause-items c =
    let rest = c.in-Some.rest in
    let count = c.min-count.result in
    let follow : (j : ℕ) → j < count → get_or c.args.view.now (c.args.place + j) 0 ≡ rest.first + j =
    λ j below. rest_follow c.segments.result.now c.args.view.now c.args.number.now c.args.place j rest c.segments.ensures.items c.segments.ensures.rule c.in-Some.ensures (omega (arith, below, c.min-count.ensures)) in
    left_within c.args.arena.now c.args.view.now c.args.place rest.first count c.requires.items
    (omega (arith, c.min-count.ensures, c.requires.some, rest_some c.segments.result.now c.args.number.now c.args.place rest c.in-Some.ensures))
    (omega (arith, c.min-count.ensures, c.requires.some, c.requires.within)) follow
