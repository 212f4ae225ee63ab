use Rattle.std.proofs.Common.{◌≡◌, ◌∙◌, ◌&&◌, true, false, sym, drop}
use Rattle.token_arena.specs.Entries.{told_by}
use Rattle.replacements.specs.Guards.{guard_before}
use Rattle.replacements.specs.Stances.{hash_comes, stance_in}
use Rattle.replacements.specs.Written.{is_of_text}
use Rattle.replacements.proofs.Writing.{laid_so}
use Rattle.replacements.proofs.written.write_laid.Goals as goal

pub returns-then-blank_comes-clause-ok : goal.returns-then-blank_comes-clause-ok
returns-then-blank_comes-clause-ok g c =
    let arena = c.args.arena.now in
    let hash : (is_of_text (stance_in c.args.sections.now c.args.place) && hash_comes arena.dialect (drop c.args.place arena.tokens)) ≡ true = sym c.blank_comes.ensures.is ∙ c.if-blank_comes.true in
    rw (laid_so c.args.style.now c.args.crlf arena (guard_before arena.tokens c.args.place) c.args.place (stance_in c.args.sections.now c.args.place) c.args.decision (told_by c.args.token.now) c.if-place-eq0.false c.requires.here true hash) c.write_all-then-blank_comes.ensures.ok

pub returns-then-blank_comes-clause-part : goal.returns-then-blank_comes-clause-part
returns-then-blank_comes-clause-part g c =
    let arena = c.args.arena.now in
    let hash : (is_of_text (stance_in c.args.sections.now c.args.place) && hash_comes arena.dialect (drop c.args.place arena.tokens)) ≡ true = sym c.blank_comes.ensures.is ∙ c.if-blank_comes.true in
    rw (laid_so c.args.style.now c.args.crlf arena (guard_before arena.tokens c.args.place) c.args.place (stance_in c.args.sections.now c.args.place) c.args.decision (told_by c.args.token.now) c.if-place-eq0.false c.requires.here true hash) c.write_all-then-blank_comes.ensures.part

pub returns-clause-ok : goal.returns-clause-ok
returns-clause-ok g c =
    let arena = c.args.arena.now in
    let hash : (is_of_text (stance_in c.args.sections.now c.args.place) && hash_comes arena.dialect (drop c.args.place arena.tokens)) ≡ false = sym c.blank_comes.ensures.is ∙ c.if-blank_comes.false in
    rw (laid_so c.args.style.now c.args.crlf arena (guard_before arena.tokens c.args.place) c.args.place (stance_in c.args.sections.now c.args.place) c.args.decision (told_by c.args.token.now) c.if-place-eq0.false c.requires.here false hash) (rw c.guard_before.ensures at c.write_guarded.ensures.ok)

pub returns-clause-part : goal.returns-clause-part
returns-clause-part g c =
    let arena = c.args.arena.now in
    let hash : (is_of_text (stance_in c.args.sections.now c.args.place) && hash_comes arena.dialect (drop c.args.place arena.tokens)) ≡ false = sym c.blank_comes.ensures.is ∙ c.if-blank_comes.false in
    rw (laid_so c.args.style.now c.args.crlf arena (guard_before arena.tokens c.args.place) c.args.place (stance_in c.args.sections.now c.args.place) c.args.decision (told_by c.args.token.now) c.if-place-eq0.false c.requires.here false hash) (rw c.guard_before.ensures at c.write_guarded.ensures.part)
