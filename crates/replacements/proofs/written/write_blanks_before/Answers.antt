use Rattle.std.proofs.Common.{◌+◌, [], refl, arith, drop, rules}
use Rattle.std.proofs.KnownBytes.{Appends-nil}
use Rattle.token_arena.specs.Entries.{told_by}
use Rattle.replacements.specs.Stances.{stance_in}
use Rattle.replacements.specs.declared.gap_text.Decision.TheVariants.{Spaces}
use Rattle.replacements.proofs.SameGaps.{held_same}
use Rattle.replacements.proofs.written.write_blanks_before.Goals as goal

pub returns-then-have_blanks-clause-held : goal.returns-then-have_blanks-clause-held
returns-then-have_blanks-clause-held g c = omega (arith, c.requires.held, c.requires.stands.later)

pub returns-then-have_blanks-clause-ok : goal.returns-then-have_blanks-clause-ok
returns-then-have_blanks-clause-ok g c =
    let arena = c.args.arena.now in
    let walk = c.args.walk.now in
    let place = c.args.place in (
      [],
      Appends-nil _,
      held_same c.args.style.now c.args.crlf arena walk.at place walk.held (stance_in c.args.sections.now place) (Spaces c.args.count) (told_by c.args.token.now) (drop (place + 1) arena.tokens)
          (c.have_blanks.ensures (search rules) c.args.style.now c.args.crlf) c.requires.held c.requires.stands.later,
    )

pub returns-then-have_blanks-clause-part : goal.returns-then-have_blanks-clause-part
returns-then-have_blanks-clause-part g c = ([], _, refl, Appends-nil _)

pub returns-clause-ok : goal.returns-clause-ok
returns-clause-ok g c = c.write_anew.ensures.ok

pub returns-clause-part : goal.returns-clause-part
returns-clause-part g c = c.write_anew.ensures.part
