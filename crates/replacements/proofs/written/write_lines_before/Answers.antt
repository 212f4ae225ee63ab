use Rattle.std.proofs.Common.{◌+◌, drop}
use Rattle.replacements.specs.Stances.{stance_in}
use Rattle.replacements.proofs.written.write_lines_before.Goals as goal

pub returns-in-Some-clause-ok : goal.returns-in-Some-clause-ok
returns-in-Some-clause-ok g c =
    rw (c.in-Some.ensures.is c.args.walk.now.at (stance_in c.args.sections.now c.args.place) (drop (c.args.place + 1) c.args.arena.now.tokens)) (rw c.text.ensures at c.write_piece.ensures.ok)

pub returns-in-Some-clause-part : goal.returns-in-Some-clause-part
returns-in-Some-clause-part g c =
    rw (c.in-Some.ensures.is c.args.walk.now.at (stance_in c.args.sections.now c.args.place) (drop (c.args.place + 1) c.args.arena.now.tokens)) (rw c.text.ensures at c.write_piece.ensures.part)

pub returns-clause-ok : goal.returns-clause-ok
returns-clause-ok g c = c.write_anew.ensures.ok

pub returns-clause-part : goal.returns-clause-part
returns-clause-part g c = c.write_anew.ensures.part
