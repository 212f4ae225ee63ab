use Rattle.std.proofs.Common.{refl}
use Rattle.fmt_ports.specs.Causes.{AppendsPart}
use Rattle.command_refusals.specs.Notes.{skipped_rows}
use Rattle.command_refusals.proofs.in_force.configured.Goals as goal

pub returns-in-Ok-clause-refused : goal.returns-in-Ok-clause-refused
returns-in-Ok-clause-refused g c =
    let rows = skipped_rows c.args.file.now c.in-Ok.skipped in
    let part : AppendsPart (g.E.Sink.taken c.args.notes.now) (g.E.Sink.taken c.tell_skipped.new.notes) rows = rw (← c.keys.ensures) c.in-Err-tell_skipped.ensures.part in
    (c.in-Ok.style, rows, (c.requires, (c.in_ok-base.base, c.in-Ok.skipped, c.in_ok-base.ensures.table, c.in-Ok.ensures.read, refl)), part)
