use Rattle.fmt_ports.proofs.Behind.{grows_by}
use Rattle.fmt_ports.proofs.streams.pieces.Pieces.flush.Goals as goal

pub returns-clause-grows : goal.returns-clause-grows
returns-clause-grows g c = grows_by _ _ _ c.write_most-count.ensures.bytes
