use Rattle.std.proofs.Common.{arith}
use Rattle.token_arena.proofs.SegmentLemmas.{found}
use Rattle.token_arena.proofs.view.segment_at.Goals as goal

pub returns-clause-has : goal.returns-clause-has
returns-clause-has c =
    let v = c.loop-high.invariant in
    found c.args.segments.now c.args.place c.loop-high.low c.loop-high.high c.requires.rule c.requires.within v.some v.within (omega (arith, c.loop-high-test.false)) v.low v.high
