use Rattle.std.proofs.lemmas.List.{take_rest}
use Rattle.fmt_ports.proofs.Compared.{byte_taken, more_taken}
use Rattle.fmt_ports.proofs.streams.same.SameSinkSink.write.Goals as goal

pub returns-then-count-eq0-clause-bytes : goal.returns-then-count-eq0-clause-bytes
returns-then-count-eq0-clause-bytes g c =
    let self = c.args.self.now in
    byte_taken self.text.now c.args.bytes.now self.at self.byte self.differs c.is_empty.result c.if-self.false c.is_empty.ensures c.if-is_empty.false

pub returns-clause-bytes : goal.returns-clause-bytes
returns-clause-bytes g c =
    let text = c.args.self.now.text.now in
    let at = c.args.self.now.at in
    more_taken text c.args.bytes.now at c.common_len-count.result c.args.self.now.byte c.args.self.now.differs c.if-self.false (rw (take_rest text at) at c.common_len-count.ensures.same)
