use Rattle.std.proofs.Common.{arith}
use Rattle.break_search.proofs.Descending.{taken_step}
use Rattle.break_search.proofs.descent.breaks_of.Goals as goal

pub loop-done-preserved : goal.loop-done-preserved
loop-done-preserved c = record {
  taken = rw c.push_reserved.ensures.items (taken_step _ _ _ _ _ c.loop-done.invariant.taken (omega (arith, c.loop-done-test.true)) _ _ c.in-Some.ensures);
  len = omega (arith, c.push_reserved.ensures.len, c.loop-done.invariant.len);
  room = omega (arith, c.push_reserved.ensures.capacity, c.loop-done.invariant.room);
}
