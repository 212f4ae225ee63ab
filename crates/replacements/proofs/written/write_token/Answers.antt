use Rattle.std.proofs.Common.{◌≡◌, ◌+◌, ◌++◌, ℕ, List, sym, arith, drop}
use Rattle.c_chars.specs.Characters.{mark_len}
use Rattle.fmt_ports.proofs.Parts.{part_of_front}
use Rattle.token_arena.specs.Entries.{told_by}
use Rattle.token_arena.specs.Gaps.{Stands, behind, gap_start}
use Rattle.replacements.specs.Guards.{guard_before, guard_of}
use Rattle.replacements.specs.Stances.{stance_in}
use Rattle.replacements.specs.Written.{bytes_between, decision_at, planned_gap, written_from}
use Rattle.replacements.proofs.Held.{stands_at, held_next}
use Rattle.replacements.proofs.Items.{gap_start-next, guard_next}
use Rattle.replacements.proofs.Writing.{written_next, held_front}
use Rattle.replacements.proofs.written.write_token.Goals as goal

pub write_before-requires-clause-stands : goal.write_before-requires-clause-stands
write_before-requires-clause-stands g c =
    let arena = c.args.arena.now in
    rw c.requires.at (stands_at arena.text (mark_len arena.text) arena.tokens c.args.place (told_by c.get-token.result) c.requires.stand c.get-token.ensures)

pub returns-in_err-write_before-clause-part : goal.returns-in_err-write_before-clause-part
returns-in_err-write_before-clause-part g c =
    let style = c.args.style.now in
    let arena = c.args.arena.now in
    let sections = c.args.sections.now in
    let plan = c.args.plan.now in
    let walk = c.args.walk.now in
    let place = c.args.place in
    let token = told_by c.get-token.result in
    let gap : List ℕ = planned_gap style c.args.crlf arena (guard_before arena.tokens place) walk.at place (stance_in sections place) (decision_at plan place) token (drop (place + 1) arena.tokens) in
    let rest : List ℕ = written_from style c.args.crlf arena sections plan (guard_of token) (behind token) (place + 1) (drop (place + 1) arena.tokens) in
    let part = c.in_err-write_before.ensures.part in
    part_of_front _ _ (bytes_between arena.text walk.held walk.at ++ gap) (token.raw ++ rest) _
    (held_front (bytes_between arena.text walk.held walk.at) gap token.raw rest _ (written_next style c.args.crlf arena sections plan (guard_before arena.tokens place) walk.at place token c.get-token.ensures))
    part

pub returns-clause-at : goal.returns-clause-at
returns-clause-at g c =
    let arena = c.args.arena.now in
    let token = told_by c.get-token.result in
    let next : gap_start (mark_len arena.text) arena.tokens (c.args.place + 1) ≡ behind token = gap_start-next (mark_len arena.text) arena.tokens c.args.place token c.get-token.ensures in
    (sym next, omega (arith, c.write_before.ensures.held))

pub returns-clause-ok : goal.returns-clause-ok
returns-clause-ok g c =
    let style = c.args.style.now in
    let arena = c.args.arena.now in
    let sections = c.args.sections.now in
    let plan = c.args.plan.now in
    let walk = c.args.walk.now in
    let place = c.args.place in
    let token = told_by c.get-token.result in
    let gap : List ℕ = planned_gap style c.args.crlf arena (guard_before arena.tokens place) walk.at place (stance_in sections place) (decision_at plan place) token (drop (place + 1) arena.tokens) in
    let any = c.in_ok-write_before.ensures.ok in
    let stands : Stands arena.text walk.at token = rw c.requires.at (stands_at arena.text (mark_len arena.text) arena.tokens place token c.requires.stand c.get-token.ensures) in
    let next = written_next style c.args.crlf arena sections plan (guard_before arena.tokens place) walk.at place token c.get-token.ensures in (
      any.0,
      any.1,
      rw (guard_next arena.tokens place token c.get-token.ensures) (held_next arena.text walk.at walk.held c.write_before.new.walk.held token gap any.0 _ _ stands c.write_before.ensures.held any.2 next),
    )

pub returns-clause-part : goal.returns-clause-part
returns-clause-part g c =
    let style = c.args.style.now in
    let arena = c.args.arena.now in
    let sections = c.args.sections.now in
    let plan = c.args.plan.now in
    let walk = c.args.walk.now in
    let place = c.args.place in
    let token = told_by c.get-token.result in
    let gap : List ℕ = planned_gap style c.args.crlf arena (guard_before arena.tokens place) walk.at place (stance_in sections place) (decision_at plan place) token (drop (place + 1) arena.tokens) in
    let rest : List ℕ = written_from style c.args.crlf arena sections plan (guard_of token) (behind token) (place + 1) (drop (place + 1) arena.tokens) in
    let part = c.in_ok-write_before.ensures.part in
    part_of_front _ _ (bytes_between arena.text walk.held walk.at ++ gap) (token.raw ++ rest) _
    (held_front (bytes_between arena.text walk.held walk.at) gap token.raw rest _ (written_next style c.args.crlf arena sections plan (guard_before arena.tokens place) walk.at place token c.get-token.ensures))
    part
