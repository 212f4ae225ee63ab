use Rattle.std.proofs.Common.{refl}
use Rattle.fmt_ports.proofs.Parts.{part_of_front, part_of_rest}
use Rattle.command_refusals.proofs.rows.write_two.Goals as goal

pub returns-in_err-write_all-clause-part : goal.returns-in_err-write_all-clause-part
returns-in_err-write_all-clause-part g c =
    part_of_front _ _ c.args.first.now c.args.second.now _ refl (rw (← c.as_bytes.ensures.value) c.in_err-write_all.ensures.part)

pub returns-clause-part : goal.returns-clause-part
returns-clause-part g c =
    part_of_rest _ (g.E.Sink.taken c.write_all.new.sink) _ c.args.first.now c.args.second.now _ refl (rw (← c.as_bytes.ensures.value) c.in_ok-write_all.ensures.ok) (rw (← c.as_bytes-2.ensures.value) c.write_all-2.ensures.part)
