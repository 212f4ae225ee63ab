use Rattle.std.proofs.Common.{refl}
use Rattle.fmt_ports.proofs.Parts.{part_of_front, part_of_rest}
use Rattle.style_tests.proofs.ports.TwiceStream.write.Goals as goal

pub returns-in_err-write_all-clause-part : goal.returns-in_err-write_all-clause-part
returns-in_err-write_all-clause-part g c = part_of_front _ _ c.args.self.now.0.now c.args.self.now.0.now _ refl c.in_err-write_all.ensures.part

pub returns-clause-part : goal.returns-clause-part
returns-clause-part g c =
    part_of_rest _ (g.K.Sink.taken c.write_all.new.sink) _ c.args.self.now.0.now c.args.self.now.0.now _ refl c.in_ok-write_all.ensures.ok c.write_all-2.ensures.part
