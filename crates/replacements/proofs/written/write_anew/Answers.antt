use Rattle.std.proofs.Common.{◌+◌, ◌++◌, ℕ, List, refl, drop}
use Rattle.std.proofs.KnownBytes.{Appends-trans}
use Rattle.fmt_ports.proofs.Parts.{part_of_front, part_of_rest}
use Rattle.token_arena.specs.Entries.{told_by}
use Rattle.replacements.specs.Guards.{guard_before}
use Rattle.replacements.specs.Stances.{stance_in}
use Rattle.replacements.specs.Written.{bytes_between, planned_gap}
use Rattle.replacements.proofs.Writing.{planned_anew, held_none}
use Rattle.replacements.proofs.written.write_anew.Goals as goal

pub returns-in_err-write_between-clause-part : goal.returns-in_err-write_between-clause-part
returns-in_err-write_between-clause-part g c =
    let arena = c.args.arena.now in
    let walk = c.args.walk.now in
    let gap : List ℕ = planned_gap c.args.style.now c.args.crlf arena (guard_before arena.tokens c.args.place) walk.at c.args.place (stance_in c.args.sections.now c.args.place) c.args.decision (told_by c.args.token.now) (drop (c.args.place + 1) arena.tokens) in
    part_of_front _ _ (bytes_between arena.text walk.held walk.at) gap _ refl (rw c.text.ensures at c.in_err-write_between.ensures.part)

pub returns-in_err-write_laid-clause-part : goal.returns-in_err-write_laid-clause-part
returns-in_err-write_laid-clause-part g c =
    let arena = c.args.arena.now in
    let walk = c.args.walk.now in
    let token = told_by c.args.token.now in
    let tokens = drop (c.args.place + 1) arena.tokens in
    let gap : List ℕ = planned_gap c.args.style.now c.args.crlf arena (guard_before arena.tokens c.args.place) walk.at c.args.place (stance_in c.args.sections.now c.args.place) c.args.decision token tokens in
    let anew = planned_anew c.args.style.now c.args.crlf arena (guard_before arena.tokens c.args.place) walk.at c.args.place (stance_in c.args.sections.now c.args.place) c.args.decision token tokens c.requires.anew in
    part_of_rest _ _ _ (bytes_between arena.text walk.held walk.at) gap _ refl (rw c.text.ensures at c.in_ok-write_between.ensures.ok) (rw anew at c.in_err-write_laid.ensures.part)

pub returns-clause-ok : goal.returns-clause-ok
returns-clause-ok g c =
    let arena = c.args.arena.now in
    let walk = c.args.walk.now in
    let token = told_by c.args.token.now in
    let tokens = drop (c.args.place + 1) arena.tokens in
    let gap : List ℕ = planned_gap c.args.style.now c.args.crlf arena (guard_before arena.tokens c.args.place) walk.at c.args.place (stance_in c.args.sections.now c.args.place) c.args.decision token tokens in
    let anew = planned_anew c.args.style.now c.args.crlf arena (guard_before arena.tokens c.args.place) walk.at c.args.place (stance_in c.args.sections.now c.args.place) c.args.decision token tokens c.requires.anew in (
      bytes_between arena.text walk.held walk.at ++ gap,
      Appends-trans _ _ _ _ _ (rw c.text.ensures at c.in_ok-write_between.ensures.ok) (rw anew at c.in_ok-write_laid.ensures.ok),
      held_none arena.text (bytes_between arena.text walk.held walk.at ++ gap) token.start,
    )

pub returns-clause-part : goal.returns-clause-part
returns-clause-part g c =
    let arena = c.args.arena.now in
    let walk = c.args.walk.now in
    let token = told_by c.args.token.now in
    let tokens = drop (c.args.place + 1) arena.tokens in
    let gap : List ℕ = planned_gap c.args.style.now c.args.crlf arena (guard_before arena.tokens c.args.place) walk.at c.args.place (stance_in c.args.sections.now c.args.place) c.args.decision token tokens in
    let anew = planned_anew c.args.style.now c.args.crlf arena (guard_before arena.tokens c.args.place) walk.at c.args.place (stance_in c.args.sections.now c.args.place) c.args.decision token tokens c.requires.anew in
    part_of_rest _ _ _ (bytes_between arena.text walk.held walk.at) gap _ refl (rw c.text.ensures at c.in_ok-write_between.ensures.ok) (rw anew at c.in_ok-write_laid.ensures.part)
