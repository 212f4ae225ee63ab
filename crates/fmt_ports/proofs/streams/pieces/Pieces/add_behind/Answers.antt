use Rattle.std.proofs.Common.{rules}
use Rattle.fmt_ports.proofs.Behind.{grows_by_write, grows_on, written_behind}
use Rattle.fmt_ports.proofs.streams.pieces.Pieces.add_behind.Goals as goal

pub returns-clause-bytes : goal.returns-clause-bytes
returns-clause-bytes g c =
    written_behind _ _ _ _ _ _ _ _ c.in_ok-flush.ensures.bytes c.in_ok-flush.ensures.empty (c.if-try_add.ensures.kept (search rules)) c.write.ensures.bytes

pub returns-clause-grows : goal.returns-clause-grows
returns-clause-grows g c = grows_on _ _ _ c.flush.ensures.grows (grows_by_write _ _ c.write.result c.args.bytes.now c.write.ensures.bytes)
