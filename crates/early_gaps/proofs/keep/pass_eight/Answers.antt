use Rattle.std.proofs.Common.{arith}
use Rattle.early_gaps.proofs.Staying.{one_live, one_other}
use Rattle.early_gaps.proofs.keep.pass_eight.Goals as goal

pub loop-next-preserved : goal.loop-next-preserved
loop-next-preserved c = λ none.
    let told = c.dead_or-dead.ensures in
    one_live c.args.arena.now c.args.first c.loop-next.next (told.dead none) (c.loop-next.invariant (told.before none))

pub loop-next-2-preserved : goal.loop-next-2-preserved
loop-next-2-preserved c = one_other c.args.arena.now c.args.first c.loop-next-2.next (c.may_be_backslash.ensures c.if-may_be_backslash.false) c.loop-next-2.invariant

pub returns : goal.returns
returns c = λ yes k low high. record {
  mark = c.is_some_marked.ensures c.if-is_some_marked.false k low high;
  dead = c.loop-next.invariant c.if-dead.false k low (omega (arith, high, c.loop-next-test.false));
  backslash = c.loop-next-2.invariant k low (omega (arith, high, c.loop-next-2-test.false));
}
