use Rattle.std.proofs.Common.{◌++◌, refl}
use Rattle.std.proofs.KnownBytes.{Appends-trans}
use Rattle.fmt_ports.proofs.Parts.{part_of_front, part_of_rest}
use Rattle.command_refusals.proofs.Results.{on_map, on_ok}
use Rattle.command_refusals.proofs.rows.write_three.Goals as goal

pub returns-in_err-write_two-clause-part : goal.returns-in_err-write_two-clause-part
returns-in_err-write_two-clause-part g c =
    part_of_front _ _ (c.args.first.now ++ c.args.second.now) c.args.third.now _ refl c.in_err-write_two.ensures.part

pub returns-clause-part : goal.returns-clause-part
returns-clause-part g c =
    part_of_rest _ _ _ (c.args.first.now ++ c.args.second.now) c.args.third.now _ refl c.in_ok-write_two.ensures.ok (rw (← c.as_bytes.ensures.value) c.write_all.ensures.part)

pub returns-clause-ok : goal.returns-clause-ok
returns-clause-ok g c =
    on_map _ _ c.write_all.result
    (λ k. Appends-trans _ _ _ (c.args.first.now ++ c.args.second.now) c.args.third.now c.in_ok-write_two.ensures.ok k)
    (rw (← c.as_bytes.ensures.value) (on_ok _ c.write_all.result c.write_all.ensures.ok))
