use Rattle.std.proofs.Common.{arith, ap, length}
use Rattle.fmt_ports.proofs.whole.read_all.Goals as goal

pub returns-clause-taken : goal.returns-clause-taken
returns-clause-taken g c =
    let taken = c.read_through.ensures.taken in
    (taken.0, omega (arith, taken.1, ap length c.as_mut_slice.ensures.value, c.in-Ok.ensures.len), taken.2)
