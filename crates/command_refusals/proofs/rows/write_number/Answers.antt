use Rattle.std.proofs.Common.{◌++◌, refl, decimal}
use Rattle.std.proofs.KnownBytes.{Appends-trans}
use Rattle.fmt_ports.proofs.Parts.{part_of_front, part_of_rest}
use Rattle.command_refusals.proofs.Results.{on_map, on_ok}
use Rattle.command_refusals.proofs.rows.write_number.Goals as goal

pub returns-in_err-write_three-clause-part : goal.returns-in_err-write_three-clause-part
returns-in_err-write_three-clause-part g c =
    part_of_front _ _ (c.args.name.now ++ c.args.before.now ++ decimal c.args.number) c.args.end.now _ refl
    (rw (← c.format.ensures.text) c.in_err-write_three.ensures.part)

pub returns-clause-part : goal.returns-clause-part
returns-clause-part g c =
    part_of_rest _ (g.E.Sink.taken c.write_three.new.notes) _ (c.args.name.now ++ c.args.before.now ++ decimal c.args.number) c.args.end.now _ refl
    (rw (← c.format.ensures.text) c.in_ok-write_three.ensures.ok)
    (rw (← c.as_bytes.ensures.value) c.write_all.ensures.part)

pub returns-clause-ok : goal.returns-clause-ok
returns-clause-ok g c =
    on_map _ _ c.write_all.result
    (λ k. Appends-trans (g.E.Sink.taken c.args.notes.now) (g.E.Sink.taken c.write_three.new.notes) _ (c.args.name.now ++ c.args.before.now ++ decimal c.args.number) c.args.end.now (rw (← c.format.ensures.text) c.in_ok-write_three.ensures.ok) k)
    (rw (← c.as_bytes.ensures.value) (on_ok _ c.write_all.result c.write_all.ensures.ok))
