use Rattle.std.proofs.KnownBytes.{Keeps-trans}
use Rattle.fmt_ports.proofs.real.write_again.Goals as goal

pub loop-turn-preserved : goal.loop-turn-preserved
loop-turn-preserved g c = Keeps-trans _ _ _ c.loop-turn.invariant c.in-Err.ensures.bytes
