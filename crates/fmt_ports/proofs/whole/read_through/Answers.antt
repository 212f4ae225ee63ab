use Rattle.fmt_ports.proofs.Taken.{Consumes-buffer}
use Rattle.std.proofs.Common.{arith}
use Rattle.std.proofs.KnownBytes.{Consumes-kept}
use Rattle.fmt_ports.proofs.whole.read_through.Goals as goal

pub returns-in_default-read-clause-taken : goal.returns-in_default-read-clause-taken
returns-in_default-read-clause-taken g c = (
  c.loop-count.all.items,
  omega (arith, c.loop-count.invariant.within),
  Consumes-kept _ _ _ _ c.loop-count.invariant.taken c.in_default-read.ensures.bytes,
)

pub returns-then-count-eq0-clause-taken : goal.returns-then-count-eq0-clause-taken
returns-then-count-eq0-clause-taken g c =
    Consumes-buffer _ _ _ _ _ _ _ _ c.loop-count.invariant.taken c.in-Ok-read.ensures.bytes.0 c.loop-count.invariant.within (omega (arith, c.loop-count.auto.buffer, c.read.auto.buf))

pub returns-then-count-limit-clause-taken : goal.returns-then-count-limit-clause-taken
returns-then-count-limit-clause-taken g c =
    Consumes-buffer _ _ _ _ _ _ _ _ c.loop-count.invariant.taken c.in-Ok-read.ensures.bytes.0 c.loop-count.invariant.within (omega (arith, c.loop-count.auto.buffer, c.read.auto.buf))

pub returns-then-is_err-clause-taken : goal.returns-then-is_err-clause-taken
returns-then-is_err-clause-taken g c =
    Consumes-buffer _ _ _ _ _ _ _ _ c.loop-count.invariant.taken c.in-Ok-read.ensures.bytes.0 c.loop-count.invariant.within (omega (arith, c.loop-count.auto.buffer, c.read.auto.buf))
