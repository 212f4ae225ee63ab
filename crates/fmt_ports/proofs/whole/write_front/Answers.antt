use Rattle.std.proofs.Common.{arith, length-take}
use Rattle.fmt_ports.proofs.Taken.{front_then_ok, front_then_part}
use Rattle.fmt_ports.proofs.whole.write_front.Goals as goal

pub returns-clause-ok : goal.returns-clause-ok
returns-clause-ok g c =
    front_then_ok _ _ _ c.args.bytes.now c.in_ok-taken.taken c.args.count c.write_all.result (omega (arith, length-take c.args.count c.args.bytes.now, c.in_ok-taken.ensures.bound)) c.in_ok-taken.ensures.bytes c.write_all.ensures.ok

pub returns-clause-part : goal.returns-clause-part
returns-clause-part g c =
    front_then_part _ _ _ c.args.bytes.now c.in_ok-taken.taken c.args.count (omega (arith, length-take c.args.count c.args.bytes.now, c.in_ok-taken.ensures.bound)) c.in_ok-taken.ensures.bytes c.write_all.ensures.part
