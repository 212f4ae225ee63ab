use Rattle.fmt_ports.proofs.Compared.{wholly_taken}
use Rattle.fmt_ports.proofs.streams.stream.compare.Goals as goal

pub returns-in-Ok : goal.returns-in-Ok
returns-in-Ok g c =
    let took = wholly_taken _ _ _ c.new-sink.ensures.taken c.in-Ok.ensures.ok in
    let same = c.is_same.ensures in
    (λ is. cc (same.0 is, took), λ is. same.1 (cc (took, is)))
