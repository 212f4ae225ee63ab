use Rattle.std.proofs.Common.{◌++◌, refl, codes, decimal}
use Rattle.std.proofs.KnownBytes.{Appends-trans}
use Rattle.fmt_ports.proofs.Parts.{part_of_front, part_of_rest}
use Rattle.command_refusals.proofs.Results.{on_map}
use Rattle.command_refusals.proofs.rows.write_place.Goals as goal

pub returns-in_err-write_two-clause-part : goal.returns-in_err-write_two-clause-part
returns-in_err-write_two-clause-part g c =
    part_of_front _ _ (codes "clang_format: --lines " ++ c.args.word.now) (c.args.told.now ++ decimal c.args.place ++ codes "\n") _ refl
    c.in_err-write_two.ensures.part

pub returns-clause-ok : goal.returns-clause-ok
returns-clause-ok g c =
    on_map _ _ c.write_three.result
    (λ k. Appends-trans _ _ _ (codes "clang_format: --lines " ++ c.args.word.now) (c.args.told.now ++ decimal c.args.place ++ codes "\n") c.in_ok-write_two.ensures.ok k)
    (rw (← c.format.ensures.text) c.write_three.ensures.ok)

pub returns-clause-part : goal.returns-clause-part
returns-clause-part g c =
    part_of_rest _ (g.E.Sink.taken c.write_two.new.notes) _ (codes "clang_format: --lines " ++ c.args.word.now) (c.args.told.now ++ decimal c.args.place ++ codes "\n") _ refl
    c.in_ok-write_two.ensures.ok
    (rw (← c.format.ensures.text) c.write_three.ensures.part)
