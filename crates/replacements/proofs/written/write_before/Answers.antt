use Rattle.std.proofs.Common.{◌≡◌, subst}
use Rattle.token_arena.specs.Entries.{told_by}
use Rattle.token_arena.specs.Gaps.{Stands}
use Rattle.token_arena.specs.Stored.{Stored}
use Rattle.replacements.proofs.written.write_before.Goals as goal

pub write_other_before-requires-clause-stands : goal.write_other_before-requires-clause-stands
write_other_before-requires-clause-stands g c = λ token is.
    let same : told_by c.args.token.now ≡ token = cc in
    subst (λ (t : Stored). Stands c.args.arena.now.text c.args.walk.now.at t) same c.requires.stands

pub returns-in-Some-clause-ok : goal.returns-in-Some-clause-ok
returns-in-Some-clause-ok g c = rw c.in-Some.ensures c.write_lines_before.ensures.ok

pub returns-in-Some-clause-part : goal.returns-in-Some-clause-part
returns-in-Some-clause-part g c = rw c.in-Some.ensures c.write_lines_before.ensures.part

pub returns-in-Some-blanks-clause-ok : goal.returns-in-Some-blanks-clause-ok
returns-in-Some-blanks-clause-ok g c = rw c.in-Some-blanks.ensures c.write_blanks_before.ensures.ok

pub returns-in-Some-blanks-clause-part : goal.returns-in-Some-blanks-clause-part
returns-in-Some-blanks-clause-part g c = rw c.in-Some-blanks.ensures c.write_blanks_before.ensures.part

pub returns-clause-held : goal.returns-clause-held
returns-clause-held g c = c.write_other_before.ensures.held (told_by c.args.token.now) c.requires.here

pub returns-clause-ok : goal.returns-clause-ok
returns-clause-ok g c = c.write_other_before.ensures.ok (told_by c.args.token.now) c.requires.here

pub returns-clause-part : goal.returns-clause-part
returns-clause-part g c = c.write_other_before.ensures.part (told_by c.args.token.now) c.requires.here
