use Rattle.std.proofs.Common.{arith, rules}
use Rattle.std.proofs.Math.Seq.{take-add}
use Rattle.std.proofs.lemmas.List.{take_rest}
use Rattle.std.proofs.KnownBytes.{Appends-trans}
use Rattle.std.proofs.Common.{length-drop}
use Rattle.fmt_ports.proofs.whole.write_most.Goals as goal

pub loop-at-preserved : goal.loop-at-preserved
loop-at-preserved g c = record {
  within = omega (arith, length-drop c.loop-at.at c.args.bytes.now, c.in-Ok.ensures.bound);
  taken = rw (take-add c.loop-at.at c.in-Ok.count c.args.bytes.now)
      (Appends-trans _ _ _ _ _ c.loop-at.invariant.taken (rw (← take_rest c.args.bytes.now c.loop-at.at) c.in-Ok.ensures.bytes));
  faults = search rules;
}
