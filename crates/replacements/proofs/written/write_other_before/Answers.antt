use Rattle.std.proofs.Common.{◌≡◌, ◌∙◌, ◌+◌, [], true, refl, ap, sym, arith, drop}
use Rattle.std.proofs.KnownBytes.{Appends-nil}
use Rattle.token_arena.specs.Entries.{told_by}
use Rattle.replacements.specs.Guards.{guard_before}
use Rattle.replacements.specs.Stances.{stance_in}
use Rattle.replacements.specs.Written.{decision_at, is_old}
use Rattle.replacements.proofs.Writing.{held_on}
use Rattle.replacements.proofs.written.write_other_before.Goals as goal

pub write_anew-requires-clause-stands : goal.write_anew-requires-clause-stands
write_anew-requires-clause-stands g c = c.requires.stands (told_by c.get-token.result) c.get-token.ensures

pub returns-then-stays-clause-held : goal.returns-then-stays-clause-held
returns-then-stays-clause-held g c = λ token is. let stands = c.requires.stands token is in omega (arith, c.requires.held, stands.later)

pub returns-then-stays-clause-ok : goal.returns-then-stays-clause-ok
returns-then-stays-clause-ok g c = λ token is.
    let arena = c.args.arena.now in
    let walk = c.args.walk.now in
    let place = c.args.place in
    let decision = decision_at c.args.plan.now place in
    let stands = c.requires.stands token is in
    let old : is_old decision ≡ true = ap is_old (sym c.decision_at-decision.ensures) ∙ (sym c.stays.ensures ∙ c.if-stays.true) in (
      [],
      Appends-nil _,
      held_on c.args.style.now c.args.crlf arena (guard_before arena.tokens place) walk.at place walk.held (stance_in c.args.sections.now place) decision token (drop (place + 1) arena.tokens) old c.requires.held
          stands.later,
    )

pub returns-then-stays-clause-part : goal.returns-then-stays-clause-part
returns-then-stays-clause-part g c = λ token is. ([], _, refl, Appends-nil _)

pub returns-clause-held : goal.returns-clause-held
returns-clause-held g c = λ token is. let same : told_by c.get-token.result ≡ token = cc in rw (← same) c.write_anew.ensures.held

pub returns-clause-ok : goal.returns-clause-ok
returns-clause-ok g c = λ token is. let same : told_by c.get-token.result ≡ token = cc in rw (← same) (rw c.decision_at-decision.ensures at c.write_anew.ensures.ok)

pub returns-clause-part : goal.returns-clause-part
returns-clause-part g c = λ token is. let same : told_by c.get-token.result ≡ token = cc in rw (← same) (rw c.decision_at-decision.ensures at c.write_anew.ensures.part)
